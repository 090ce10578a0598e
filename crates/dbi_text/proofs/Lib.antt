-- What a loop over the lines goes by: one line more.
mod Growing

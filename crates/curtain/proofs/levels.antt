-- What the proof of `levels` stands on.
mod Steps

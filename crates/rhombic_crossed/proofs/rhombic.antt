-- The code's steps are the rule.
mod Whole

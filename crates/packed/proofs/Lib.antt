-- A part of a list, element by element.
pub mod Parts

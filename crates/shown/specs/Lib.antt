-- The definitions that contracts cite: one file for each subject.
pub mod InOrder
pub mod Plate
pub mod StationPlate
pub mod CurtainPlate
pub mod Shown
pub mod Rows

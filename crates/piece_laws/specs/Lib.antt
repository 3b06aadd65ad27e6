pub mod HeaderBoxes
pub mod Differences

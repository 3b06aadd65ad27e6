pub mod Inclusion
pub mod Counting
pub mod Sides
pub mod Remains
pub mod Bounds
pub mod Differences
pub mod Left

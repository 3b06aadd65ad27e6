pub mod Enclosed
pub mod Marking
pub mod Parted
pub mod Searching

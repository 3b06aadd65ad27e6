pub mod Raised
pub mod Firsts
pub mod Levels
pub mod Runs
pub mod Rows
pub mod Whole

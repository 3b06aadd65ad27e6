pub mod Climbing
pub mod Sorting
pub mod Building
pub mod Longest
pub mod Answering
pub mod Ascending
pub mod Neighbours
pub mod Making

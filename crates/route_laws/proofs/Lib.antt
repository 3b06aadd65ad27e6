pub mod Walked
pub mod Marking
pub mod EachRow

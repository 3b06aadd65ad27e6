pub mod Forest
pub mod Grouped
pub mod Labels

pub mod OfTexts
pub mod Fault
pub mod Rank
pub mod Seen

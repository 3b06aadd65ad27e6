pub mod Marked
pub mod Cases

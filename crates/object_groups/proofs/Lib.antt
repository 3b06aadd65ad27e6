pub mod Ends
pub mod RunSteps
pub mod Kept
pub mod Turns

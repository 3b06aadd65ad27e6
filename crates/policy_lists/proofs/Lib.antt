pub mod Ends
pub mod Premises
pub mod Marks
pub mod Refusals
pub mod Interfaces
pub mod Lines

pub mod Scope
pub mod Ends
pub mod Least
pub mod Counted
pub mod Faults

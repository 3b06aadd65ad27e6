pub mod Spread
pub mod Seen
pub mod Areas
pub mod Sets
pub mod Scope
pub mod Groups

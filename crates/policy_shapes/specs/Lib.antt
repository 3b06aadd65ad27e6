pub mod Seen
pub mod Keys
pub mod Sets
pub mod Policy
pub mod Rows

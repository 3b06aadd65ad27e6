pub mod Flags
pub mod Reaching
pub mod Seen

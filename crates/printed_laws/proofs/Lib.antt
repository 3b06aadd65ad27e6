pub mod Boxes
pub mod Prefixes
pub mod Lines
pub mod Kept
mod Joined
mod GroupCount
pub mod Ports
pub mod Files
pub mod InPlace

pub mod Ports
pub mod Gathering
pub mod Spreading
pub mod Levels
pub mod Running
pub mod Reaching

pub mod Loops
pub mod Covering

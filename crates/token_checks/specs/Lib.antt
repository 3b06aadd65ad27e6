pub mod Places
pub mod LeftOut
pub mod Nesting

pub mod Passes
pub mod Places
pub mod SameKeys
pub mod Probing
pub mod Walks
pub mod Shelving
pub mod Repeating

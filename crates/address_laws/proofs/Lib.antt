pub mod Own
pub mod Lying
pub mod OnWalks
pub mod Shown
pub mod Passing
pub mod Accepted

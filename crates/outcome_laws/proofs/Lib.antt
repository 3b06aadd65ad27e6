pub mod Listed
pub mod Untold
pub mod Direct
pub mod Deciding
pub mod FileNames
pub mod Straight

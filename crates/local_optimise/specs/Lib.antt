pub mod Keys
pub mod Chained
pub mod Held
pub mod Remaining

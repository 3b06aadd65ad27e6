pub mod Files
pub mod Outcome
pub mod Exact
pub mod Found

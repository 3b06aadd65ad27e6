pub mod TwoKinds
pub mod Shadowed
pub mod Row
pub mod Distinct

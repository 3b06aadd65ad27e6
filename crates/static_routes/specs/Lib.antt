pub mod Found
pub mod Chains
pub mod Tables
pub mod Ways

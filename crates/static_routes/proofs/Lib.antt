pub mod Adding
pub mod Below
pub mod Tuples
pub mod Filing
pub mod Keys
pub mod Gathered

pub mod Holders
pub mod Lying
pub mod Names
pub mod Shadows
pub mod Sightings

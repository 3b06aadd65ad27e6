pub mod Lists
pub mod Known
pub mod Clashes
pub mod Taken
pub mod Bare
pub mod Lookups
pub mod SetTests
pub mod FirstShape

pub mod Prefixes
pub mod Networks
pub mod Shaping
pub mod Unalike
pub mod Unbound
pub mod Lists

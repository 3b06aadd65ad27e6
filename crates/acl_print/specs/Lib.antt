pub mod Seen
pub mod Words
pub mod Groups
pub mod Entries
pub mod DeviceText

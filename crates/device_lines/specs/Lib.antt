pub mod Alone
pub mod Numbers
pub mod Entries
pub mod Lines
pub mod Seen

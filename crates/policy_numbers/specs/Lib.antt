pub mod Seen

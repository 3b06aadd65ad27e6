pub mod Completed
pub mod Next
pub mod Seen

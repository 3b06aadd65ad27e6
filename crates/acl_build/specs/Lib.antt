pub mod Given
pub mod Seen
pub mod Pieces
pub mod Limit

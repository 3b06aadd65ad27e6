pub mod Finding
pub mod Items
pub mod Meeting
pub mod Moving
pub mod Placed
pub mod Placing

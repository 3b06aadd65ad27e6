pub mod InOrder
pub mod Written

pub mod Orders
pub mod Shapes
pub mod Joins
pub mod Finding
pub mod There
pub mod EachRow

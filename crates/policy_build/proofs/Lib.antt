pub mod Rows
pub mod Unions
pub mod Called
pub mod Expanding
pub mod Named
pub mod Goods
pub mod Firsts
pub mod Grown
pub mod RouterIfaces
pub mod TagTexts
pub mod Fairness
pub mod RowLists
pub mod Faultless
pub mod Placed
pub mod Parted
pub mod Shared
mod FirstBoxes

pub mod Sources
pub mod Table

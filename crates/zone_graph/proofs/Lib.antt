pub mod Counted
mod Filled
mod Joining
mod Labelled
mod Routers
mod Rows
mod Ties

pub mod Leaving
pub mod Tables

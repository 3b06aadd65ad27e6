pub mod SetUses
pub mod TestLemmas
pub mod Noted
pub mod Twice
pub mod Steps
pub mod Numbers
pub mod Known

pub mod Parts
pub mod EntryText
pub mod GroupNumbers
pub mod FirstUses

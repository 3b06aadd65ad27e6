pub mod Reached
pub mod Numbered
pub mod ZonesThere
pub mod RowsThere
pub mod MeaningThere

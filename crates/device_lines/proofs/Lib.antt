pub mod WordLaws
pub mod NumberLaws
pub mod EndLaws
pub mod EntryLaws
pub mod AloneLaws
pub mod LineLaws

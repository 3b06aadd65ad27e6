pub mod EndLists
pub mod LeastEnds
pub mod Counts
pub mod Rules
pub mod FirstRules
pub mod Limits

pub mod CompleteLaws
pub mod NextLaws

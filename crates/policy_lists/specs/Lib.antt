pub mod Known
pub mod Coming
pub mod Walking

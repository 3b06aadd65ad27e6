pub mod Said
pub mod Words
pub mod WordsIn
pub mod Shown

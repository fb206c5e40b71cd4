pub mod Work
pub mod Begins

pub mod Inputs
pub mod Keeps

pub mod Vars
pub mod Targets
pub mod Run

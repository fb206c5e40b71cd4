pub mod Turning
pub mod Lifting
pub mod Resuming
pub mod Meaning
pub mod Chases
pub mod Limits
pub mod Advancing
pub mod Ports

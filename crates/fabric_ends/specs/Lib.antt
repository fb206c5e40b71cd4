pub mod Carrying
pub mod Planned
pub mod Promises

pub mod Filled
pub mod Readings

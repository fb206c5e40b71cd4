pub mod Rings
pub mod Sound

pub mod Blocks
pub mod Building

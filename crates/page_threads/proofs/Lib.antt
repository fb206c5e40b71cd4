pub mod Journals
pub mod Carrying

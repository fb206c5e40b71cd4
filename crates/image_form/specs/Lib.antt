pub mod Ops
pub mod Spelling
pub mod Reading
pub mod Tables
pub mod Whole
pub mod Views

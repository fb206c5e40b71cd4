pub mod Lining
pub mod Reading
pub mod Scanning
pub mod Passing
pub mod Wording
pub mod Counting
pub mod Joining

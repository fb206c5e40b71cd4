pub mod Places
pub mod Filling
pub mod Ends
pub mod Linked
pub mod Alike
pub mod Changed

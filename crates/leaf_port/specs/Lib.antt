pub mod Leaf
pub mod Ports
pub mod Masks
pub mod Owed
pub mod Rows

pub mod Steps
pub mod Advances
pub mod Logs
pub mod Chase
pub mod Paths
pub mod Swaps
pub mod Toy

pub mod Keeps
pub mod Offers
pub mod Filling
pub mod Leaves
pub mod Bits
pub mod Slots

pub mod Once
pub mod Found
pub mod Frees
pub mod Ended
pub mod Named
mod Opens
pub mod Sounds
pub mod Refusals
mod Changes
pub mod Masks
pub mod Counted

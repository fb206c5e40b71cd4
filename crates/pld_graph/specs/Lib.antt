pub mod Entries
pub mod Parts
pub mod Design
pub mod Edits
pub mod Sound
pub mod Slots
pub mod Masks

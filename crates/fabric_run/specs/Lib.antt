pub mod Entries
pub mod Turns
pub mod World
pub mod Replay
pub mod Plan
pub mod Shown
pub mod Reply
pub mod Trees

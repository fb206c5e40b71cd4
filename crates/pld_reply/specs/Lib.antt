pub mod Refusals
pub mod Replies
pub mod Sizes
pub mod Summary
pub mod Tables

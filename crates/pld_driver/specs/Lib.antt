pub mod Walk
pub mod Moments
pub mod Statuses
pub mod Reading
pub mod Outcome

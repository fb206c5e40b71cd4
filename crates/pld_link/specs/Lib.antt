pub mod Seats
pub mod Rows
pub mod Joining
pub mod Changes

pub mod Padding
pub mod Prefixes
pub mod Events
pub mod Processes
pub mod Histories
pub mod Machines

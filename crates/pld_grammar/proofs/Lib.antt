pub mod Accept
pub mod Values
pub mod Derive
pub mod Unique
pub mod Faults
pub mod Parse

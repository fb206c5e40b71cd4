pub mod Independent
pub mod States
pub mod ByFields
pub mod Spots
pub mod Earliest
pub mod Ranges

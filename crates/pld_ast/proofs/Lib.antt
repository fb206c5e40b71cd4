pub mod Counts
pub mod Views
pub mod Grows
pub mod ReadLaws
pub mod TraceLaws
pub mod WordLaws
pub mod Naming

pub mod Draft
pub mod Faults
pub mod Edits

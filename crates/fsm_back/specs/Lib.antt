pub mod Table
pub mod Sequences
pub mod Form

pub mod Lines
pub mod Words
pub mod Numbers
pub mod Grammar
pub mod Statements
pub mod Edits
pub mod Chain

pub mod Marks
pub mod Words
pub mod Lexed
pub mod Reads

pub mod Assembly
pub mod Coding
pub mod Forms
pub mod Numbers
pub mod Printing
pub mod Words

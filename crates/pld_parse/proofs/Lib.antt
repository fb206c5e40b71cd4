pub mod Marks
pub mod Prefixes
pub mod Expressions
pub mod Simples
pub mod Blocks
pub mod Operators
pub mod Nestings

pub mod Faults
pub mod Firsts
pub mod Known
pub mod Tested
pub mod Uses
pub mod Scopes

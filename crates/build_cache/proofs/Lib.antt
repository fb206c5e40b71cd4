pub mod Kepts
pub mod Places
pub mod Missed

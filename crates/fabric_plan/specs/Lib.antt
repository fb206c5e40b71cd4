pub mod Wiring
pub mod Plans
pub mod Standing
pub mod Runnable

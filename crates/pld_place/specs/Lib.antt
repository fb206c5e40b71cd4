pub mod Distance
pub mod Exchanges
pub mod Placing
pub mod Touching

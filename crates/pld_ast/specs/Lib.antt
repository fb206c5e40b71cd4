pub mod Nodes
pub mod Ops
pub mod Program
pub mod Resolve
pub mod Meaning
pub mod Sound
pub mod AreWords

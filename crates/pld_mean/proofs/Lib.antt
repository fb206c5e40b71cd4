pub mod Blocks
pub mod Evals
pub mod Execs
pub mod Runs
pub mod States

pub mod Numbers
pub mod Many
pub mod Targets
pub mod MadeTables
pub mod Fielding
pub mod Stages
pub mod Few
pub mod Images

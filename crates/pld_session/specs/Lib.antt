pub mod States
pub mod Runs
pub mod Answers
pub mod Steps
pub mod Headline
pub mod Laws
pub mod Large
pub mod Commands

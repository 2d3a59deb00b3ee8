pub mod Heard
pub mod Commands
pub mod Runs

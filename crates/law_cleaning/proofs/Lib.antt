pub mod Listed
pub mod Passes
pub mod Commands
pub mod Runs

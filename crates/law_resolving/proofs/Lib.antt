pub mod Listed
pub mod Resolved
pub mod Commands
pub mod Runs

pub mod Plain
pub mod Put
pub mod Writes
pub mod Ends
pub mod Commands
pub mod Runs

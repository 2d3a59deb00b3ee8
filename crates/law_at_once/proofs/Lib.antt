pub mod Late
pub mod Starts
pub mod Asked
pub mod Runs

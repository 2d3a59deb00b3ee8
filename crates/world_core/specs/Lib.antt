pub mod State
pub mod Kept
pub mod Runs
pub mod World

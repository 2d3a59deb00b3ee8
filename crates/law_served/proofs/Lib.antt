pub mod Above
pub mod Tellings
pub mod Runs

pub mod Above
pub mod Holds
pub mod Told
pub mod Runs

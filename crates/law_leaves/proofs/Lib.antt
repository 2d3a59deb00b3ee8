pub mod Keeps
pub mod Limits
pub mod Data
pub mod Ids
pub mod Asks
pub mod Closed
pub mod Runs

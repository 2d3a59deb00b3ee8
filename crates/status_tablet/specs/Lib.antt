pub mod Keeps
pub mod Stands
pub mod Decisions
pub mod Restarts
pub mod Laws

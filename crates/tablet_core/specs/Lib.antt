pub mod Fitting
pub mod Stands
pub mod Requests
pub mod Decisions
pub mod Restarts
pub mod Laws

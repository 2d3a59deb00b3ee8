pub mod Fitted
pub mod Says
pub mod Performing
pub mod Restarting

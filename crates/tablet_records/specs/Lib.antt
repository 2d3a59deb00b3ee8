pub mod Fitting
pub mod Keeps
pub mod Committed
pub mod Considers

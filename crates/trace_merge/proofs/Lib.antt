pub mod Readings
pub mod Tracking
pub mod Judging
pub mod Walking
pub mod Agreeing
pub mod Placing
pub mod Places
pub mod Sorting

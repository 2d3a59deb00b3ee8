pub mod Heeds
pub mod Means
pub mod Programs
pub mod Lines
pub mod Between
pub mod Says
pub mod Runs

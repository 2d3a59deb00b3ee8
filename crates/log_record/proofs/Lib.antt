pub mod Each
pub mod Exact
pub mod Kept
pub mod Parts
pub mod Records
pub mod Short
pub mod Spelled
pub mod Steps

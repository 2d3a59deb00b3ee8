pub mod Floors
pub mod Starts
pub mod Above
pub mod Right

mod Own
pub mod Matching
pub mod Seats
mod Rising
pub mod Merging

pub mod Versions
pub mod Landing
pub mod Kept
pub mod Recorded

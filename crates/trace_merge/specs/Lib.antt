pub mod Clocks
pub mod Held
pub mod Merged
pub mod Seen
pub mod Tracks
pub mod Walked

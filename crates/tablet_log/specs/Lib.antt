pub mod Frames
pub mod Entries
pub mod Replay
pub mod Logged
pub mod Refusals
pub mod Rests

pub mod Following
pub mod Running
pub mod Recorded
pub mod Beside
pub mod Props
pub mod Stepping
pub mod Asking
pub mod Recording

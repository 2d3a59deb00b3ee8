pub mod Asking
pub mod Rounds
pub mod First
pub mod Visited

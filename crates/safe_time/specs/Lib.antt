pub mod ActorClock
pub mod Course
pub mod Refusals

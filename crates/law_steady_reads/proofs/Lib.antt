pub mod Follows
pub mod Finals
pub mod FinalTimes
pub mod Steady

pub mod Took
pub mod Answered
pub mod Rise
pub mod Runs

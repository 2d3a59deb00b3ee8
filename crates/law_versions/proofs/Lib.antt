pub mod Answered
pub mod Places
pub mod Same
pub mod Log
pub mod Runs

pub mod Grounds
pub mod Tables
pub mod Programs
pub mod Movers
pub mod Runs

pub mod Grounds
pub mod Programs
pub mod Tables
pub mod Movers
pub mod Runs

pub mod Tables
pub mod Open
pub mod Runs

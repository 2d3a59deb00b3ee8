pub mod Numbers
pub mod Claims
pub mod Writes
pub mod Begins
pub mod Lines
pub mod Runs

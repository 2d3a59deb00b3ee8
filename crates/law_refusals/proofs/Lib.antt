pub mod Tables
pub mod Overlaps
pub mod Aborts
pub mod Since
pub mod Runs
pub mod Faults

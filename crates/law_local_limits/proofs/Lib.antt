pub mod Programs
pub mod Tables
pub mod Movers
pub mod Runs
pub mod Origins

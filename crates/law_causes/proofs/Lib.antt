pub mod Goes
pub mod Programs
pub mod Lines
pub mod Ranges
pub mod Heard
pub mod Found
pub mod Doubts
pub mod Runs

pub mod Tables
pub mod Scheduled
pub mod Cases
pub mod ScheduleCases
pub mod DrawnCases
pub mod SettledCases
pub mod NextCases

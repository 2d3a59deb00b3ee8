pub mod BeforeLogs
pub mod Form
pub mod Text
pub mod Course
pub mod Outcome

pub mod History
pub mod Rule
pub mod Steps
pub mod Values
pub mod Closed

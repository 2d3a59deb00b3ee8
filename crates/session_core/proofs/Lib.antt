pub mod Programs
pub mod Lost
pub mod Shown
pub mod Movers
pub mod WriteCommand
pub mod Timed
pub mod Answering
pub mod Listing

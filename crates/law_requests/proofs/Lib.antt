pub mod Lists
pub mod Programs
pub mod Movers
pub mod Replies
pub mod Runs

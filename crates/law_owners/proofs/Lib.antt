pub mod Founds
pub mod Replies
pub mod Homed
pub mod Programs
pub mod Serials
pub mod Ids
pub mod Commands
pub mod Runs

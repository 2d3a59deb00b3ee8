pub mod Steps
pub mod Keeps
pub mod Times
pub mod Sessions
pub mod Rising

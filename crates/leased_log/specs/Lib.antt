pub mod Allows
pub mod Stands
pub mod Decides
pub mod Acts
pub mod Loads
pub mod Times
pub mod Replies
pub mod Laws

pub mod Own
pub mod Turns
pub mod Taken
pub mod Sessions
pub mod Passes
pub mod OwnEvents

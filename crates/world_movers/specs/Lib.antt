pub mod Asked
pub mod Slots
pub mod Sessions
pub mod Appliers
pub mod Movers

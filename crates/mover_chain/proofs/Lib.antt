pub mod Lines
pub mod Fronts
pub mod States
pub mod Left
pub mod Counted
pub mod Places

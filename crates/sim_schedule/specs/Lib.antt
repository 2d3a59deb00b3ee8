pub mod Stands
pub mod Left

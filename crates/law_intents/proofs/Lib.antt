pub mod Table
pub mod Cleared

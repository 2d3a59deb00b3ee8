pub mod Notes
pub mod Records
pub mod Forgotten

pub mod Meeting
pub mod Deciding
pub mod Tables
pub mod Walk

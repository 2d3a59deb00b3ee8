pub mod Walks
pub mod Lines
pub mod Agreeing
pub mod Ascii
mod SmallReports

pub mod Uses
pub mod Stamps
pub mod Merging

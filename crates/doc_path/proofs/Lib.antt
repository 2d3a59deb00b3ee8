pub mod Order
pub mod Prefix

pub mod Paths
pub mod Rows
pub mod Beneath
pub mod Over
pub mod Tablets
pub mod Orders
pub mod Last
pub mod Folded

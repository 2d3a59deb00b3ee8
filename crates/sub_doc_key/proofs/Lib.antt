pub mod Extends
pub mod Fronts
pub mod Paths
pub mod Subkeys
pub mod Texts
pub mod Versions
pub mod Order

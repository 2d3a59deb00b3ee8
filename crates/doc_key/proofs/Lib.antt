pub mod Columns
pub mod Extends
pub mod Fronts
pub mod Groups
pub mod Keys
pub mod Order
pub mod Shown

pub mod Spelling
pub mod Reading
pub mod Showing
pub mod Order

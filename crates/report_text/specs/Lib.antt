pub mod Shown
pub mod Answer
pub mod Line
pub mod Total
pub mod Text
pub mod Walk

pub mod Meeting
pub mod Origins
pub mod Limits
pub mod Opened
pub mod Clear
pub mod Fresh

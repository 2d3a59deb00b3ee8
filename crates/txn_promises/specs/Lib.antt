pub mod Lines
pub mod Answers
pub mod Left
pub mod Ends
pub mod Leaves
pub mod Refuses
pub mod Promises

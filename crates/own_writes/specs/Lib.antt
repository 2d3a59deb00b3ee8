pub mod Accepted
pub mod OwnWrites
pub mod Numbered
pub mod Indexed
pub mod Merging

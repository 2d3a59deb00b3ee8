pub mod Witness
pub mod Scripts
pub mod Shows
pub mod Needed
pub mod Branches
pub mod Wrong
pub mod Endings

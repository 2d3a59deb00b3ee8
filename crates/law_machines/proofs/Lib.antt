pub mod Basics
pub mod Pieces
pub mod Counted
pub mod Owns
pub mod Landed
pub mod Lands
pub mod Since

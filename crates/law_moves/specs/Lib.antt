pub mod Moving
pub mod Passing
pub mod Laws

pub mod Conflict
pub mod Laws
pub mod Decide
pub mod Firsts
pub mod Steps

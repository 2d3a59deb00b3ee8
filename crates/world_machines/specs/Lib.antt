pub mod Machines
pub mod Served
pub mod Stores

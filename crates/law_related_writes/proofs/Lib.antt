pub mod Writes
pub mod Related

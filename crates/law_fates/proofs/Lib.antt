pub mod Table
pub mod Life
pub mod Own
pub mod Told
pub mod Promised
pub mod Runs

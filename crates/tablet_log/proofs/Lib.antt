pub mod Framed
pub mod Replayed
pub mod Stepped
pub mod Restarted

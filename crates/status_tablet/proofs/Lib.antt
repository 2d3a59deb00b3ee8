pub mod Entries
pub mod Table
pub mod Says
pub mod Performing
pub mod Downed
pub mod Restarting
pub mod Begun
pub mod Serving

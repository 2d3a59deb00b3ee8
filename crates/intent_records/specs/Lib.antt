pub mod Keys
pub mod KeyOrder
pub mod Holds
pub mod Search
pub mod Steps
pub mod Related

pub mod Items
pub mod Intents
pub mod Visits
pub mod Shown

pub mod Ranks
pub mod Made
pub mod Folds

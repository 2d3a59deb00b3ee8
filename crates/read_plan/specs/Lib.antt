pub mod Rest
pub mod Stage
pub mod Found
pub mod Laws
pub mod Visits

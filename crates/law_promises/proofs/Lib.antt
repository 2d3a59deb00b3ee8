pub mod Cases
pub mod TabletCases
pub mod ReadCases
pub mod KeepsPromises

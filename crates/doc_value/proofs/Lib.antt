pub mod Fronts
pub mod Steps
pub mod Texts
pub mod Values
pub mod Order
pub mod ValueOrder
pub mod Shown

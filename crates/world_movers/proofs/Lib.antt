pub mod Entries
pub mod Seated
pub mod Placed
pub mod Passing
pub mod Seats
pub mod Seating
pub mod Done

pub mod Rules
pub mod Safe
pub mod Moves
pub mod Runs
pub mod Flights
pub mod Shapes

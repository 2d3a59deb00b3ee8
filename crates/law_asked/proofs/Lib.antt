pub mod Flights
pub mod Asking
pub mod Closing
pub mod Restarts
pub mod Runs

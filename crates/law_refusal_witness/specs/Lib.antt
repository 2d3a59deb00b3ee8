pub mod Refused
pub mod Faults
pub mod Clocks
pub mod WrongRefusals

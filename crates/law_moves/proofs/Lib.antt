pub mod OneMore
pub mod Leaving
pub mod Enabled
pub mod Rounds
pub mod Over
pub mod Drawing
pub mod Clocks
pub mod Loops

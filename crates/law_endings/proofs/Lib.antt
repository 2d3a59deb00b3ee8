pub mod OneAsk
pub mod Tables
pub mod Records
pub mod Lives
pub mod Asked
pub mod Told
pub mod Runs

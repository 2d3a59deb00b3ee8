pub mod OpenTxn
pub mod SessionState
pub mod Lines
pub mod Turn
pub mod Work
pub mod CommandInFlight
pub mod Mover
pub mod Core

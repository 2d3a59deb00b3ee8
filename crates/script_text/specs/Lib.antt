-- The language of scripts: lines, words, terms, outcomes, the commands of lines, and whole scripts.
pub mod Lines
pub mod Words
pub mod Terms
pub mod Outcomes
pub mod Commands
pub mod Script
pub mod Said
pub mod Shown
pub mod Saying
pub mod Written
pub mod Queues

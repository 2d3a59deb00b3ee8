pub mod Own
pub mod RunsOf

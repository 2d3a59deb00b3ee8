pub mod Says
pub mod Commits

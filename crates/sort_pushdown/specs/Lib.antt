pub mod Decisions
pub mod Deciding
pub mod Merging

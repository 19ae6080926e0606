pub mod Kept
pub mod Bottlenecks
pub mod Passes

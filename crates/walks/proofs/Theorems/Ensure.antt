pub mod Kept
pub mod Removal
pub mod Passes
pub mod Live
pub mod Sound

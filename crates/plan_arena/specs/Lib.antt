pub mod Parts
pub mod Fill
pub mod ReadFile
pub mod Sizes

pub mod Back
pub mod Same
pub mod Files

pub mod Outlets
pub mod Moves
pub mod Stepping
pub mod RowBytes
pub mod Answers
pub mod Coming
pub mod StepCount

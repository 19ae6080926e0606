pub mod Forest
pub mod Op
pub mod Numbers
pub mod WellFormed
pub mod Samples

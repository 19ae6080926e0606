pub mod Rows
pub mod Ordering
pub mod Over

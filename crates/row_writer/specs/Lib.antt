pub mod Writing
pub mod Unsigned
pub mod Rows
pub mod Streams
pub mod Sizes

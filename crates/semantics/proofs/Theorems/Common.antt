pub mod Bools
pub mod Lowest
pub mod Streams
pub mod Sums

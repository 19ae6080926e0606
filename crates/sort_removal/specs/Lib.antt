pub mod Sizes
pub mod SingleStream
pub mod Removing
pub mod Recursion

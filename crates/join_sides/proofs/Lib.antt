pub mod Room
pub mod Searching

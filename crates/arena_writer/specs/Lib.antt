pub mod Flat
pub mod Streams

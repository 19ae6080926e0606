pub mod Fields
pub mod Partitionings

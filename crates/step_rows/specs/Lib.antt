pub mod Heads
pub mod Projecting

pub mod Known
pub mod Reading
pub mod Saying
pub mod Projecting

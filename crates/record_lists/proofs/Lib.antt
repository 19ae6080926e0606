pub mod Slots
pub mod TailLaws

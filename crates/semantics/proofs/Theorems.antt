pub mod Common
pub mod Orders
pub mod Canonical
pub mod Joins
pub mod Sound
pub mod Check
pub mod Runs
pub mod Facts

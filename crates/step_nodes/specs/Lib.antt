pub mod Layout
pub mod FewPlaces
pub mod Rows
pub mod Manners
pub mod Laying
pub mod Slots
pub mod Moves

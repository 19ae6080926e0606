pub mod KeptSides
pub mod Orders

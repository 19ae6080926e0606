pub mod Nodes
pub mod Maintaining

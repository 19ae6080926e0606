pub mod Nodes
pub mod Kinds
pub mod Marking
pub mod Replacing
pub mod Entering

pub mod Files
pub mod Nodes
pub mod Sources
pub mod Declared

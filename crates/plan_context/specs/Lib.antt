pub mod View
pub mod Laws
pub mod Facts
pub mod Nodes
pub mod Handles
pub mod Summaries
pub mod Storing
pub mod Records

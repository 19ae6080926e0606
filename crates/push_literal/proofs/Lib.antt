pub mod Agrees
pub mod Contexts
pub mod HelperCalls
pub mod Nodes
pub mod Pinned
pub mod SameAnswers
pub mod Sorts
pub mod WholePlans

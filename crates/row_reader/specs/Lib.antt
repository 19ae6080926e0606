pub mod Reading
pub mod Streams
pub mod Nodes
pub mod Plans
pub mod Counts
pub mod FirstState

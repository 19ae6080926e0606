pub mod UnionsProjections
pub mod EveryNode

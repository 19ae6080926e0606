pub mod Fields
pub mod Decoded
pub mod Proper
pub mod Encoded
pub mod Kinds
pub mod Fronts

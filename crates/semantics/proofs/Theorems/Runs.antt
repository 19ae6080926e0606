pub mod Exists
pub mod RunStreams
pub mod Rows
pub mod Widths
pub mod NotNarrower
pub mod Splits
pub mod SharedTables
pub mod Groups

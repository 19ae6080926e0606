pub mod Rows
pub mod Signed
pub mod Cells
pub mod Ordered
pub mod Streams
pub mod Constants

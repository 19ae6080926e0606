pub mod Cells
pub mod AllRows

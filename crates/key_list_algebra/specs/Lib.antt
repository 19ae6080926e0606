pub mod Offsets
pub mod Comparing
pub mod Normalising
pub mod Sets

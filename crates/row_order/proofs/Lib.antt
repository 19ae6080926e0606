pub mod Order
pub mod Comparing
pub mod Sorting

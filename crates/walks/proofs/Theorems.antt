pub mod Common
pub mod Ensure
pub mod Parallelize
pub mod Preserve
pub mod Push
pub mod PartialSort
pub mod Calls

pub mod PartialSorts
pub mod Filing
pub mod Calls

pub mod Kept
pub mod ChildOrders
pub mod WellFormed
pub mod Aggregates

pub mod Fits
pub mod StreamCounts
pub mod GroupOrders

pub mod Exprs
pub mod Cascading

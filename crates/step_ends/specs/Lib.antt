pub mod Tidying
pub mod Ending

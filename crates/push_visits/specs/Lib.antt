pub mod Carried
pub mod Visiting
pub mod Carrying

pub mod Tables
pub mod Lowest
pub mod Filling
pub mod Linking

pub mod Keys
pub mod Packing
pub mod Lists

pub mod Picking
pub mod Carrying

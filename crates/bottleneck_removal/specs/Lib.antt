pub mod Connecting
pub mod Shown
pub mod Skipping
pub mod Sizes
pub mod IdleNodes
pub mod Removing

pub mod Samples
pub mod Worked
pub mod Pinned
pub mod PinnedPush
pub mod Aggregates

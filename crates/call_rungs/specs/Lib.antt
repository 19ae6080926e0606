pub mod Replies
pub mod Rungs

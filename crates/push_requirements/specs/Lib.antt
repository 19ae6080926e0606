pub mod Pushing
pub mod Answers
pub mod Joins

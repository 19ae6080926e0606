pub mod InOrder
pub mod Outputs
pub mod FileAnswers
pub mod FileNumbers

pub mod ListAnswers
pub mod Meeting

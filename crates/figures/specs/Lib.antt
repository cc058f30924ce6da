pub mod Weights
pub mod Answers

pub mod Answering
pub mod Room

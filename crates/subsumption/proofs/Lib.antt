pub mod Subsuming
pub mod Pushing

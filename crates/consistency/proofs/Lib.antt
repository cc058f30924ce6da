pub mod Callers
pub mod Whole

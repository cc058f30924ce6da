pub mod Ways
pub mod Whole
pub mod Held
pub mod Reading

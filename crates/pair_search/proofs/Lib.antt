pub mod Failing
pub mod Turns

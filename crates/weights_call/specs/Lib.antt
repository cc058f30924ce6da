pub mod Calls
pub mod TwoCalls

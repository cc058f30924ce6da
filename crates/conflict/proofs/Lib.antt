pub mod Bytes
pub mod Given
pub mod Turns

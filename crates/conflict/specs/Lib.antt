pub mod Given
pub mod Reduced
pub mod Shown

pub mod Blend
pub mod Field

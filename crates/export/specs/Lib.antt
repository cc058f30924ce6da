pub mod Exports
pub mod TwoExports

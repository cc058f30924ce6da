pub mod TwoExports

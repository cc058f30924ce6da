pub mod Listing
pub mod Testing
pub mod Reducing
pub mod TwoExports

pub mod Laws
pub mod Putting

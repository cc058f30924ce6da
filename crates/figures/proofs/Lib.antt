pub mod Products
pub mod Listed

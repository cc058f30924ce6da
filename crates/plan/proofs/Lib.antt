pub mod Alike
pub mod Filled
pub mod Notes
pub mod Pairs
pub mod Plans
pub mod Rows

pub mod Saving
pub mod TwoTables

pub mod Literals
pub mod Tables

pub mod Bytes
pub mod Numbers
pub mod Pairs
pub mod Sets
pub mod Tables

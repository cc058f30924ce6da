pub mod Entries
pub mod Scan
pub mod Callers
pub mod Clearing

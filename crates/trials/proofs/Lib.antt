pub mod Bytes
pub mod Descents
pub mod Endings
pub mod FirstSets
pub mod Turns

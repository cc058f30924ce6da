-- The laws that the functions' proofs cite, and, in Callers, those that a caller's proof cites.
pub mod Numbers
pub mod Putting
pub mod Walk
pub mod Members
pub mod Callers

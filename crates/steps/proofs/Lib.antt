-- The laws behind the proofs: step 3, the run.
pub mod Removing
pub mod Running

-- The laws behind the proofs: the run's start, the answer.
pub mod Starting
pub mod Answering

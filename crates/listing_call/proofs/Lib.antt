-- The laws behind the proofs: the refusals, the answer.
pub mod Refusing
pub mod Answering
pub mod TwoCalls

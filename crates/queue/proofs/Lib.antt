-- The laws that the functions' proofs cite, and, in Callers, those that a caller's proof cites.
pub mod OrderLaws
pub mod EntryLaws
pub mod PairLaws
pub mod SumLaws
pub mod HeapLaws
pub mod SiftLaws
pub mod SieveLaws
pub mod HoldsLaws
pub mod Callers

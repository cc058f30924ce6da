-- `PairSet::has_all` meets its contract: by the first word, or by both. Assumes nothing.
use native.Mathlib.Omega.{arith}
use borrow.Author.Rules.{rules}
use Rattle.clauses.proofs.Pairs.{within_first, within_both}
use Rattle.clauses.proofs.sets.PairSet.has_all.Goals as goal

pub returns-then-n-le64 : goal.returns-then-n-le64
returns-then-n-le64 c = within_first _ _ _ _ (omega arith) c.has_low.ensures

pub returns : goal.returns
returns c = within_both _ _ _ _ _ (omega arith) (search rules) c.has_low-2.ensures c.has_low-3.ensures

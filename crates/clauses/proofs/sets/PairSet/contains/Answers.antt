-- `PairSet::contains` meets its contract: a bit of the first word, a bit of the second, or none. Assumes nothing.
use mathlib.Core.Path.{sym, ◌∙◌}
use Prim.Native.Nat.{◌-◌}
use native.Mathlib.Omega.{arith}
use Rattle.clauses.proofs.Bits.{bit-read}
use Rattle.clauses.proofs.Pairs.{pair-first, pair-second, pair-past}
use Rattle.clauses.proofs.sets.PairSet.contains.Goals as goal

pub returns-then-c-lt64 : goal.returns-then-c-lt64
returns-then-c-lt64 c =
    let s = c.args in
    bit-read s.self.first s.c ∙ sym (pair-first s.self.first s.self.second s.c (omega arith))

pub returns-then-c-lt-PAIR_CLAUSES : goal.returns-then-c-lt-PAIR_CLAUSES
returns-then-c-lt-PAIR_CLAUSES c =
    let s = c.args in
    bit-read s.self.second (s.c - 64) ∙ sym (pair-second s.self.first s.self.second s.c (omega arith) (omega arith))

pub returns : goal.returns
returns c = let s = c.args in sym (pair-past s.self.first s.self.second s.c (omega arith))

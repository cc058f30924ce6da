-- `words::is_full` meets its contract: the mask has a one for each assigned variable. Assumes nothing.
use native.Mathlib.Omega.{arith}
use Rattle.theory.proofs.Words.{full-by_ones}
use Rattle.words.proofs.is_full.Goals as goal

pub returns : goal.returns
returns c a values w e = rw (w.mask_is, ← e) (full-by_ones a (omega (arith, w.short)))

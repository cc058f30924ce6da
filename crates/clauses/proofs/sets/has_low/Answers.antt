-- `sets::has_low` meets its contract: by the bits below n, or by the whole word. Assumes nothing.
use native.Mathlib.Omega.{arith}
use lib.Pow.{suc_ones}
use Rattle.clauses.proofs.Bits.{shl_one}
use Rattle.clauses.proofs.Pairs.{low-within, full-within}
use Rattle.clauses.proofs.sets.has_low.Goals as goal

pub overflow_sub-low : goal.overflow_sub-low
overflow_sub-low c = rw (shl_one c.args.n (omega arith)) (omega (arith, suc_ones c.args.n))

pub returns-then-n-lt64 : goal.returns-then-n-lt64
returns-then-n-lt64 c = rw (shl_one c.args.n (omega arith)) (low-within _ _)

pub returns : goal.returns
returns c = full-within _ _ (omega arith) c.ranges.word.fits

-- `sheet_clauses::literal_at` meets its contract: each of the three fields fits the byte that it becomes. Assumes nothing.
use native.Mathlib.Omega.{arith}
use Rattle.readings.proofs.Laws.{below}
use Rattle.sheet_clauses.proofs.literal_at.Goals as goal

pub overflow_cast-value : goal.overflow_cast-value
overflow_cast-value c = omega (arith, rw c.in_ok-value.was at (below _ 4 _ _ _ c.three-fields.result.third c.ok_or-3.result c.ok_or-3.ensures.value c.three-fields.ensures.2))

pub overflow_cast-result : goal.overflow_cast-result
overflow_cast-result c = omega (arith, rw c.in_ok-variable.was at (below _ 6 _ _ _ c.three-fields.result.first c.ok_or.result c.ok_or.ensures.value c.three-fields.ensures.0))

pub overflow_cast-result-2 : goal.overflow_cast-result-2
overflow_cast-result-2 c = omega (arith, rw c.in_ok-sign.was at (below _ 1 _ _ _ c.three-fields.result.second c.ok_or-2.result c.ok_or-2.ensures.value c.three-fields.ensures.1))

-- `descend` meets its contract. The loop over the values of v: with any set that is alike in the clauses that it went by, `Tries`.
-- The measure: each descent leaves one variable fewer to set. Assumes nothing.
use mathlib.Core.Path.{◌≡◌}
use mathlib.Core.Bool.{Bool, true}
use Prim.Native.Nat.{ℕ, ◌<◌, ◌≤◌}
use Rattle.clauses.specs.Numbers.{pair_clauses}
use Rattle.clauses.specs.Pairs.{of_pair}
use Rattle.plan.specs.Plans.{notes_begin, in_plan, SameBefore, left_to_set, Alike}
use Rattle.plan.proofs.Rows.{Inside}
use Rattle.pair_search.specs.Found.{Learns}
use Rattle.pair_search.proofs.Turns.{Tries}
use Rattle.pair_search.proofs.+descend.Given as goal

abbrev pub decreases-descend : goal.decreases-descend
decreases-descend l = left_to_set l.plan.now l.v

abbrev pub invariant-loop-x : goal.invariant-loop-x
invariant-loop-x l =
    Inside l.initial.plan l.v
    × SameBefore notes_begin l.initial.plan l.plan
    × (l.rest ≤ l.left)
    × ((inOther : ℕ → Bool) → Alike (of_pair l.needs) (of_pair l.held) inOther → Tries l.sat l.initial.plan inOther l.v l.left l.rest l.x)
    × Learns l.sat l.initial.plan l.plan
    × ((c : ℕ) → c < pair_clauses → in_plan l.initial.plan l.v c ≡ true → of_pair l.needs c ≡ true)

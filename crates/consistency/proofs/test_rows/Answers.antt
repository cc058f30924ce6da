-- `test_rows` meets its contract: the first question is decided by `any_false`, the rest by the search from variable 0 with the sets that `start` makes. Assumes nothing.
use mathlib.Core.Path.{sym, ◌∙◌}
use mathlib.Core.Bool.{true≢false}
use native.Mathlib.Omega.{arith}
use Rattle.clauses.specs.Numbers.{most_clauses}
use Rattle.trials.proofs.FirstSets.{none_in_pair}
use Rattle.consistency.proofs.Whole.{tables-vals, lent-first, bytes-first, at_once, searched}
use Rattle.consistency.proofs.test_rows.Goals as goal

pub any_false-requires : goal.any_false-requires
any_false-requires c =
    (tables-vals c.requires, λ k e. absurd (true≢false (sym e ∙ none_in_pair k)))

pub returns-then-any_false : goal.returns-then-any_false
returns-then-any_false c = at_once c.requires _ _ (sym c.any_false.ensures ∙ c.if-any_false.true)

pub start-held-requires : goal.start-held-requires
start-held-requires c = lent-first c.requires _

pub search-requires : goal.search-requires
search-requires c =
    let g = c.requires in
    record { bytes = bytes-first g; sat_long = g.ready.sat_long; last-long = omega (arith, c.start-held.auto.last) }

pub shape_of-vals : goal.shape_of-vals
shape_of-vals c = c.search.auto.vals

pub returns : goal.returns
returns c =
    let g = c.requires in
    searched g _ _ most_clauses g.tables.most (omega arith) (sym c.any_false.ensures ∙ c.if-any_false.false)
    _ _ _ _ tt c.start-held.ensures c.search.ensures

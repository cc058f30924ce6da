-- `test_pairs` meets its contract: the first question is decided by `any_false`, the rest by the search along the plan that `start` makes, in which nothing is noted. Assumes nothing.
use mathlib.Core.Path.{sym, ◌∙◌}
use native.Mathlib.Omega.{arith}
use Rattle.plan.proofs.Notes.{knows-none}
use Rattle.consistency.proofs.Whole.{tables-vals, lent_plan, at_once, settled-clear, plan_first, searchable_first, planned-searched}
use Rattle.consistency.proofs.test_pairs.Goals as goal

pub start-s-requires : goal.start-s-requires
start-s-requires c =
    let g = c.requires in
    (lent_plan g.0 _ g.1, g.0.same, g.1)

pub any_false-requires : goal.any_false-requires
any_false-requires c =
    (tables-vals c.requires.0, rw c.with.ensures (settled-clear c.requires.0 _ _ _ _ c.start-s.ensures))

pub returns-then-any_false : goal.returns-then-any_false
returns-then-any_false c =
    record {
      ended = at_once c.requires.0 _ _ (sym c.any_false.ensures ∙ c.if-any_false.true);
      long = c.start-s.ensures.long;
    }

pub search-answer-requires : goal.search-answer-requires
search-answer-requires c =
    let g = c.requires in
    searchable_first g.0 g.2 c.start-s.ensures

pub take_found-requires : goal.take_found-requires
take_found-requires c =
    let g = c.requires.0 in
    omega (arith, g.few, g.same)

pub returns : goal.returns
returns c =
    let g = c.requires in
    let p = c.start-s.ensures in
    let e = c.search-answer.ensures in
    let f = c.take_found.ensures in record {
      ended = rw (f.1, f.0)
          (planned-searched g.0 g.2 p (knows-none _ _ _ _ (λ v l. p.blank v (omega arith) (omega (arith, g.0.same))))
          _ _ (sym c.any_false.ensures ∙ c.if-any_false.false) _ _ (e.finds _ _ (plan_first g.0 g.2 p)));
      long = e.long ∙ p.long;
    }

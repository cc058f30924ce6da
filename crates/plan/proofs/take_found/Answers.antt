-- `take_found` meets its contract, ending by ending. Assumes nothing.
use mathlib.Core.Path.{refl, sym, ◌∙◌}
use Rattle.plan.proofs.Filled.{after-consistent, after-none}
use Rattle.plan.proofs.take_found.Goals as goal

pub returns-in-Consistent : goal.returns-in-Consistent
returns-in-Consistent c = (refl, c.fill.ensures ∙ sym (after-consistent _ _ _ _ c.in-Consistent.is))

pub returns-in_default : goal.returns-in_default
returns-in_default c = (refl, sym (after-none _ _ _ c.in_default.not-Consistent))

-- `words::values_fit` meets its contract: what its closure tests of each variable in turn is the definition's test. Assumes nothing.
use mathlib.Core.Path.{refl, sym, ◌∙◌}
use native.Mathlib.Nat.{zero-add, sub-zero}
use Rattle.std.proofs.Common.{rules, tests}
use Rattle.std.proofs.lemmas.Iterator.{YieldsList-from_range}
use Rattle.std.proofs.lemmas.Iterator.Search.{all_from_yields_List}
use Rattle.model.specs.Assignment.{values_fit}
use Rattle.words.proofs.Loops.{fits_at, fit-all}
use Rattle.words.proofs.values_fit.Goals as goal

pub returns : goal.returns
unfolding values_fit
returns c =
    let s = c.args in
    let within = all_from_yields_List (fits_at s.sizes.now s.mask s.values) _ _ c.all-within.result c.all-within.ensures.ran (YieldsList-from_range 0 s.d s.d refl (sub-zero s.d)) (λ x b q k. search (rules, tests)) in
    sym (fit-all s.sizes.now s.d s.mask s.values c.requires.0 c.requires.1 s.d 0 (zero-add s.d) ∙ rw (← within, ← c.after.ensures))

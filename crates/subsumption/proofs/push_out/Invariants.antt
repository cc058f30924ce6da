-- `subsumption::push_out` meets its contract. The loop's invariant: what stands in front is kept, behind it comes what the test keeps of the entries from this place on, and those stand as they were. Assumes nothing.
use Prim.Native.Nat.{ℕ, ◌*◌, ◌≤◌}
use mathlib.Core.Path.{◌≡◌}
use mathlib.Core.Bool.{not}
use mathlib.Core.List.{List, ◌++◌}
use lib.ListN.{length, take, drop}
use Rattle.model.specs.Lists.{keep}
use Rattle.model.specs.Assignment.{Assignment}
use Rattle.model.specs.Conflict.{manifests}
use Rattle.theory.specs.Words.{Wide}
use Rattle.store.specs.Store.{Keeps}
use Rattle.subsumption.proofs.Pushing.{Closing}
use Rattle.subsumption.proofs.push_out.Given as goal

abbrev pub invariant-loop-i : goal.invariant-loop-i
invariant-loop-i l = (l.left ≤ l.i) × (drop (2 * l.i) l.store ≡ drop (2 * l.i) l.initial.store)
    × ((d : ℕ) (conflicts : List Assignment) (n : Assignment) → Keeps d l.initial.store l.m conflicts → Wide n l.conflict.mask l.conflict.values → length n ≡ d
    → Closing d l.store l.left (take l.from conflicts ++ keep (λ s. not (manifests s n)) (drop l.from conflicts)) (keep (λ s. not (manifests s n)) (drop l.i conflicts)))

-- `store::narrow_masks` meets its contract. The loop's invariant: the entries before this place have narrow masks, and all words from it on are as they were. Assumes nothing.
use Prim.Native.Nat.{ℕ}
use mathlib.Core.Path.{◌≡◌}
use mathlib.Core.List.{List}
use Rattle.model.specs.Assignment.{Assignment}
use Rattle.store.specs.Store.{Keeps}
use Rattle.store.proofs.Clearing.{narrowed_to}
use Rattle.store.proofs.narrow_masks.Given as goal

abbrev pub invariant-loop-entry : goal.invariant-loop-entry
invariant-loop-entry l = (d : ℕ) (conflicts : List Assignment) → Keeps d l.initial.store l.m conflicts → l.store ≡ narrowed_to conflicts l.initial.store l.entry

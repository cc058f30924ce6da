-- `store::narrow_masks` meets its contract. The loop's invariant: the entries before this place have narrow masks, and all words from it on are as they were. Assumes nothing.
use Prim.Native.Nat.{ℕ, ◌*◌}
use mathlib.Core.Path.{refl, ap, ◌∙◌}
use mathlib.Core.List.{List, []}
use native.Mathlib.Omega.{arith}
use lib.ListN.{get_or, set}
use Rattle.store.proofs.Entries.{keeps-wide}
use Rattle.store.proofs.Clearing.{narrow_start, narrow-reads, narrow_step, narrow-end}
use Rattle.store.proofs.narrow_masks.Goals as goal

pub loop-entry-init : goal.loop-entry-init
loop-entry-init c d conflicts k = narrow_start k

pub loop-entry-preserved : goal.loop-entry-preserved
loop-entry-preserved c d conflicts k =
    let h = c.loop-entry in
    let is = h.invariant d conflicts k in
    let wide = ap (λ (s : List ℕ). get_or s (2 * h.entry) 0) is ∙ narrow-reads k h.entry (omega arith) in
    let here = c.narrowed.ensures (get_or conflicts h.entry []) _ (keeps-wide k h.entry (omega arith) wide refl) in
    ap (λ (s : List ℕ). set s (2 * h.entry) c.narrowed.result) is ∙ narrow_step k h.entry (omega arith) here

pub returns : goal.returns
returns c d conflicts k = c.loop-entry.invariant d conflicts k ∙ narrow-end k c.loop-entry.entry (omega arith)

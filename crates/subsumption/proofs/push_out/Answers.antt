-- `subsumption::push_out` meets its contract. The loop's invariant: what stands in front is kept, behind it comes what the test keeps of the entries from this place on, and those stand as they were. Assumes nothing.
use Prim.Native.Nat.{◌+◌, ◌*◌, ◌<◌}
use mathlib.Core.Path.{◌≡◌, refl, sym, ap, ◌∙◌}
use mathlib.Core.Bool.{not}
use mathlib.Core.List.{[]}
use native.Mathlib.Omega.{arith}
use lib.ListN.{get_or, length-set}
use Rattle.model.specs.Conflict.{manifests}
use Rattle.store.proofs.Entries.{keeps-wide}
use Rattle.subsumption.proofs.Pushing.{keeps_length, same-behind, same_at, written_behind, closing_start, closing_step, closing_end, keep-here, keep-past, byte_small}
use Rattle.subsumption.proofs.push_out.Goals as goal

pub loop-i-init : goal.loop-i-init
loop-i-init c = (omega arith, refl, λ d conflicts n k w l. closing_start k c.args.from (omega arith) _)

pub bounds-store-left-in-loop-i : goal.bounds-store-left-in-loop-i
bounds-store-left-in-loop-i c = simp length-set (omega arith)

pub overflow_add-left : goal.overflow_add-left
overflow_add-left c = omega (arith, byte_small (not c.manifests.result))

pub loop-i-preserved : goal.loop-i-preserved
loop-i-preserved c =
    let s = c.args in
    let h = c.loop-i in
    let entry = c.entry_at-entry in
    let mask = entry.result.mask in
    let values = entry.result.values in (
      omega (arith, byte_small (not c.manifests.result)),
      written_behind h.store h.left (h.i + 1) mask values (omega arith)
          ∙ same-behind h.store s.store.now (2 * h.i) (2 * (h.i + 1)) (omega arith) h.invariant.1,
      λ d conflicts n k w l.
          let there = get_or conflicts h.i [] in
          let inside : h.i < s.m = omega arith in
          let mask_at = entry.ensures.0 ∙ same_at h.store s.store.now (2 * h.i) (2 * h.i) (omega arith) h.invariant.1 in
          let values-at = entry.ensures.1 ∙ same_at h.store s.store.now (2 * h.i) (2 * h.i + 1) (omega arith) h.invariant.1 in
          let words = keeps-wide k h.i inside mask_at values-at in
          let long = keeps_length k h.i inside in
          let stays = ap not (c.manifests.ensures there n words w (long ∙ sym l)) in
          let so_far = rw (keep-here (λ s. not (manifests s n)) conflicts h.i [] (omega (arith, k.count)), ← stays) at (h.invariant.2 d conflicts n k w l) in
          rw c.from-left.ensures (closing_step (not c.manifests.result) so_far words long (omega arith)),
    )

pub returns : goal.returns
returns c =
    let s = c.args in
    let h = c.loop-i in
    let all : h.i ≡ s.m = omega arith in record {
      few = omega arith;
      kept = λ d conflicts n k w l.
          closing_end (rw (keep-past (λ s. not (manifests s n)) conflicts h.i (omega (arith, k.count))) at (h.invariant.2 d conflicts n k w l));
      behind = rw all at h.invariant.1;
    }

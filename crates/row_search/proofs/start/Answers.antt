-- `start` meets its contract. The loop, from the last variable down: the sets are those of the variables from v on. Assumes nothing.
use mathlib.Core.Path.{◌≡◌, refl, ◌∙◌}
use Prim.Native.Nat.{◌+◌, ◌-◌}
use native.Mathlib.Omega.{arith}
use Rattle.clauses.specs.Numbers.{most_clauses}
use Rattle.trials.proofs.FirstSets.{empty, value-below, from_first, from_next, from_end}
use Rattle.row_search.proofs.start.Goals as goal

pub loop-v-init : goal.loop-v-init
loop-v-init c = (refl, c.requires, λ cs k. from_first most_clauses _ _ _ cs _ _ empty k)

pub store_less-requires : goal.store_less-requires
store_less-requires c =
    let h = c.loop-v in
    (omega (arith, h.invariant.0, h.invariant.1.few, h.invariant.1.long), omega (arith, h.invariant.1.few, h.invariant.1.uses_long))

pub joined_if-wait-requires : goal.joined_if-wait-requires
joined_if-wait-requires c =
    let h = c.loop-v in
    λ e. omega (arith, h.invariant.1.few, h.invariant.1.uses_long)

pub overflow_mul-row : goal.overflow_mul-row
overflow_mul-row c = omega (arith, c.loop-v.invariant.1.few)

pub overflow_add-row : goal.overflow_add-row
overflow_add-row c =
    let h = c.loop-v in
    omega (arith, c.from.ensures, h.invariant.1.few, h.invariant.1.bytes (h.v - 1))

pub joined_if-hold-requires : goal.joined_if-hold-requires
joined_if-hold-requires c =
    let h = c.loop-v in
    λ e. omega (arith, c.from.ensures, h.invariant.1.few, h.invariant.1.sat_long, value-below _ (h.invariant.1.bytes (h.v - 1)) e)

pub loop-v-preserved : goal.loop-v-preserved
loop-v-preserved c =
    let h = c.loop-v in
    let m = c.store_less in
    let e : h.v ≡ h.v - 1 + 1 = omega arith in (
      m.auto.to ∙ h.invariant.0,
      h.invariant.1,
      λ cs k. from_next most_clauses _ _ _ (omega arith) (h.v - 1) h.invariant.1.few (omega arith) (h.invariant.1.bytes (h.v - 1)) _ _ _ _ _ _
          (λ e. m.ensures.here) (λ u c l. m.ensures.rest u c) c.joined_if-wait.ensures.has (rw c.from.ensures at c.joined_if-hold.ensures).has cs k (rw e at (h.invariant.2 cs k)),
    )

pub shape_of-last : goal.shape_of-last
shape_of-last c = c.loop-v.invariant.0

pub returns : goal.returns
returns c =
    let h = c.loop-v in
    let e : h.v ≡ 0 = omega arith in
    λ cs k. from_end most_clauses _ cs _ _ _ (rw e at (h.invariant.2 cs k))

-- `evaluation::any_false` meets its contract. Where the set has all clauses, none is false. The loop: some clause is false exactly if one from i on is; a clause of the set is known not to be. Assumes nothing.
use mathlib.Core.Path.{◌≡◌, refl, sym, ◌∙◌}
use Prim.Native.Nat.{◌+◌, ◌*◌, ◌-◌}
use Rattle.theory.proofs.TableClauses.{clauses_length, along-first, along-room, along-below, along-next, along-nth}
use Rattle.theory.proofs.Search.{nth_any}
use Rattle.clauses.proofs.Parts.{any_step, any_end}
use native.Mathlib.Omega.{arith}
use Rattle.clauses.proofs.evaluation.any_false.Goals as goal

pub returns-then-has_all : goal.returns-then-has_all
returns-then-has_all c =
    sym (nth_any _ _ (λ k l. c.requires.1 k (c.has_all.ensures.all c.if-has_all.true k (omega (arith, clauses_length c.args.counts.now c.args.lits.now)) refl)))

pub loop-i-init : goal.loop-i-init
loop-i-init c = let g = c.requires.0 in (along-first _ _ _ g.room g.below, refl)

pub overflow_mul-end : goal.overflow_mul-end
overflow_mul-end c = omega (arith, c.from.ensures, along-room _ _ _ _ _ c.loop-i.invariant.0 c.loop-i-test.true)

pub overflow_add-end : goal.overflow_add-end
overflow_add-end c = omega (arith, c.from.ensures, along-room _ _ _ _ _ c.loop-i.invariant.0 c.loop-i-test.true)

pub slice_bounds-fails-end : goal.slice_bounds-fails-end
slice_bounds-fails-end c = omega (arith, c.from.ensures, along-room _ _ _ _ _ c.loop-i.invariant.0 c.loop-i-test.true)

pub fails-requires : goal.fails-requires
fails-requires c =
    let h = c.loop-i in
    let lt = c.loop-i-test.true in
    let x = c.from in
    let e : h.at + 3 * x.result - h.at ≡ 3 * x.result = omega arith in
    rw (e, x.ensures)
    (along-below _ _ _ _ _ h.invariant.0 lt, λ w. rw (along-nth _ _ _ _ _ h.invariant.0 lt) at (c.requires.1 h.i (sym c.contains.ensures ∙ w)))

pub returns-then-fails : goal.returns-then-fails
returns-then-fails c =
    let h = c.loop-i in
    let x = c.from in
    let lt = c.loop-i-test.true in
    let e : h.at + 3 * x.result - h.at ≡ 3 * x.result = omega arith in
    sym (h.invariant.1 ∙ any_step _ _ _ _ _ _ h.invariant.0 lt _ (rw (e, x.ensures) at c.fails.ensures) ∙ rw c.if-fails.true)

pub loop-i-preserved : goal.loop-i-preserved
loop-i-preserved c =
    let h = c.loop-i in
    let lt = c.loop-i-test.true in
    let x = c.from in
    let e : h.at + 3 * x.result - h.at ≡ 3 * x.result = omega arith in (
      rw x.ensures (along-next _ _ _ _ _ h.invariant.0 lt),
      h.invariant.1 ∙ any_step _ _ _ _ _ _ h.invariant.0 lt _ (rw (e, x.ensures) at c.fails.ensures) ∙ rw c.if-fails.false,
    )

pub returns : goal.returns
returns c = sym (c.loop-i.invariant.1 ∙ any_end _ _ _ _ _ _ c.loop-i.invariant.0 c.loop-i-test.false)

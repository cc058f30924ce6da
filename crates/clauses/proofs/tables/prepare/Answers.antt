-- `tables::prepare` meets its contract. The loop: both tables have the clauses before i, whose literals end at `at`. Assumes nothing.
use mathlib.Core.Path.{◌≡◌}
use Prim.Native.Nat.{◌+◌, ◌*◌, ◌-◌}
use Rattle.theory.proofs.TableClauses.{along-room, along-below}
use Rattle.clauses.proofs.Filling.{filling_first, filling_next, filling_end}
use native.Mathlib.Omega.{arith}
use Rattle.clauses.proofs.tables.prepare.Goals as goal

pub loop-i-init : goal.loop-i-init
loop-i-init c =
    filling_first _ _ _ _ c.requires.0 c.requires.1 c.requires.2 c.requires.3 c.requires.4

pub overflow_mul-end : goal.overflow_mul-end
overflow_mul-end c = omega (arith, c.from.ensures, along-room _ _ _ _ _ c.loop-i.invariant.along c.loop-i-test.true)

pub overflow_add-end : goal.overflow_add-end
overflow_add-end c = omega (arith, c.from.ensures, along-room _ _ _ _ _ c.loop-i.invariant.along c.loop-i-test.true)

pub slice_bounds-mark_clause-end : goal.slice_bounds-mark_clause-end
slice_bounds-mark_clause-end c = omega (arith, c.from.ensures, along-room _ _ _ _ _ c.loop-i.invariant.along c.loop-i-test.true)

pub mark_clause-requires : goal.mark_clause-requires
mark_clause-requires c =
    let h = c.loop-i in
    let x = c.from in
    let e : h.at + 3 * x.result - h.at ≡ 3 * x.result = omega arith in
    (rw (e, x.ensures) (along-below _ _ _ _ _ h.invariant.along c.loop-i-test.true), h.invariant.sat_long, h.invariant.uses_long, omega (arith, h.invariant.most))

pub loop-i-preserved : goal.loop-i-preserved
loop-i-preserved c =
    let h = c.loop-i in
    let x = c.from in
    let m = c.mark_clause in
    let e : h.at + 3 * x.result - h.at ≡ 3 * x.result = omega arith in
    rw x.ensures
    (filling_next _ _ _ _ _ _ _ _ h.invariant c.loop-i-test.true
    _ _ m.auto.sat m.auto.uses (rw (e, x.ensures) at m.ensures))

pub shape_of-sat : goal.shape_of-sat
shape_of-sat c = c.loop-i.invariant.sat_same

pub shape_of-uses : goal.shape_of-uses
shape_of-uses c = c.loop-i.invariant.uses_same

pub returns : goal.returns
returns c = filling_end _ _ _ _ _ _ _ _ c.loop-i.invariant c.loop-i-test.false

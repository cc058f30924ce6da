-- `children::put_values` meets its contract. The loop's invariant: the children of the values passed have been put. Assumes nothing.
use mathlib.Core.Path.{◌∙◌}
use native.Mathlib.Omega.{arith}
use Rattle.std.proofs.lemmas.Result.{err_from_is_err_and}
use Rattle.children.proofs.Walk.{size_is, free_of}
use Rattle.children.proofs.Putting.{put-nothing, onward, next-put, next-full, variants-none}
use Rattle.children.proofs.put_values.Goals as goal

pub loop-x-init : goal.loop-x-init
loop-x-init c s t e = rw (variants-none s.parent c.args.v c.args.but) (put-nothing s)

pub returns-in_err-entries : goal.returns-in_err-entries
returns-in_err-entries c s t e =
    let a = c.args in
    let l = c.loop-x in
    let so_far = l.invariant s t e in
    let h = c.requires.1 in
    let size = c.from-x-end.ensures ∙ size_is t a.v h in
    let p = err_from_is_err_and c.from_residual.result c.from_residual.ensures.1 in
    rw (p.1, p.2) (next-full s a.v a.but l.x _ _ l.auto.queue so_far _ _ (omega (arith, size)) (rw c.in_err-entries.was at (c.put_value.ensures (onward s _ _ _ l.auto.queue so_far) (free_of t a.v h e) (omega (arith, size)))))

pub loop-x-preserved : goal.loop-x-preserved
loop-x-preserved c s t e =
    let a = c.args in
    let l = c.loop-x in
    let so_far = l.invariant s t e in
    let h = c.requires.1 in
    let size = c.from-x-end.ensures ∙ size_is t a.v h in
    next-put s a.v a.but l.x _ _ l.auto.queue so_far _ _ (rw c.in_ok-entries.was at (c.put_value.ensures (onward s _ _ _ l.auto.queue so_far) (free_of t a.v h e) (omega (arith, size))))

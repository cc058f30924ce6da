-- `children::put_value` meets its contract: the value that is excepted makes no child, and any other makes one, which is put. Assumes nothing.
use mathlib.Core.Path.{sym, ◌∙◌}
use Rattle.children.proofs.Putting.{put-nothing, instead, variants-excepted, variants-one}
use Rattle.children.proofs.put_value.Goals as goal

pub returns-then-eq : goal.returns-then-eq
returns-then-eq c s f h = let a = c.args in rw (variants-excepted s.parent a.v a.but a.x (sym c.eq.ensures ∙ c.if-eq.true)) (put-nothing s)

pub returns : goal.returns
returns c s f h =
    let a = c.args in
    let child = c.given.ensures s.plant s.parent s.is f h in
    rw (variants-one s.parent a.v a.but a.x (sym c.eq.ensures ∙ c.if-eq.false)) (c.put_one.ensures (instead s _ _ child))

-- `children::put_one` meets its contract: one law for each way out. Assumes nothing.
use mathlib.Core.Path.{sym, ◌∙◌}
use native.Mathlib.Omega.{arith}
use Rattle.model.specs.Sheet.{edition_of, decision_sizes}
use Rattle.model.specs.Order.{order_of}
use Rattle.children.proofs.Numbers.{node-entry}
use Rattle.children.proofs.Putting.{told, put-left-off, put_full, put_in}
use Rattle.children.proofs.put_one.Goals as goal

pub returns-then-manifests_any : goal.returns-then-manifests_any
returns-then-manifests_any c s = put-left-off s (sym (told s c.widened.ensures c.manifests_any.ensures) ∙ c.if-manifests_any.true)

pub returns-then-queue-n : goal.returns-then-queue-n
returns-then-queue-n c s = put_full s _ (sym (told s c.widened.ensures c.manifests_any.ensures) ∙ c.if-manifests_any.false) c.if-queue-n.true

pub returns : goal.returns
returns c s =
    let a = c.args.weighed in
    let e = c.entry_of-entry in
    put_in s _ (sym (told s c.widened.ensures c.manifests_any.ensures) ∙ c.if-manifests_any.false) (omega arith)
    (c.push.ensures (order_of (edition_of a) s.plant) s.rest s.parent s.holds
    (e.ensures (decision_sizes s.plant) (order_of (edition_of a) s.plant) s.parent (node-entry s.is).0 (node-entry s.is).1 s.is.valid s.is.mask_is s.is.code_is s.is.figure-is))

-- `children::wanted` meets its contract: a value is wanted of an unassigned variable that the conflict assigns. Assumes nothing.
use mathlib.Core.Path.{sym, ap₂, ap, ◌∙◌}
use mathlib.Core.Bool.{not, ◌||◌}
use mathlib.Core.Option.{none}
use native.Mathlib.Omega.{arith}
use lib.ListN.{get_or}
use Rattle.children.proofs.Walk.{assigned-is, nibble-is, member-unwanted, member-wanted}
use Rattle.children.proofs.wanted.Goals as goal

pub returns-then-is_assigned-clause-told : goal.returns-then-is_assigned-clause-told
returns-then-is_assigned-clause-told c n d others w x e l =
    let v = c.args.v in
    let tests = ap₂ ◌||◌ (assigned-is w l _ c.is_assigned.ensures) (ap not (assigned-is x (omega arith) _ c.is_assigned-2.ensures)) in
    member-unwanted (get_or n v none) (get_or d v none) (sym tests ∙ c.if-is_assigned.true)

pub returns-clause-told : goal.returns-clause-told
returns-clause-told c n d others w x e l =
    let v = c.args.v in
    let tests = ap₂ ◌||◌ (assigned-is w l _ c.is_assigned.ensures) (ap not (assigned-is x (omega arith) _ c.is_assigned-2.ensures)) in
    let is = member-wanted (get_or n v none) (get_or d v none) (sym tests ∙ c.if-is_assigned.false) in
    rw c.digit_at.ensures.0 (is.0 ∙ nibble-is x (omega arith) is.1)

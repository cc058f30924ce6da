-- `queue::comes_before` meets its contract: the derived order compares the first words, and of equal ones the second. Assumes nothing.
use mathlib.Core.Path.{◌≡◌, refl, ◌∙◌}
use mathlib.Core.Bool.{Bool, true, false, cond, ◌&&◌, ◌||◌}
use lib.Dec.{ltb, eqb}
use Rattle.std.proofs.Common.{Some, Less, Equal, Greater}
use Rattle.std.specs.Ordering.{is_lt, is_some_and, partial_ordering_then}
use Rattle.queue.specs.Order.{comes_before}
use Rattle.queue.proofs.comes_before.Goals as goal

-- less: of the first words, or of the second where the first are equal
then_less : (less equal less' equal' : Bool)
    → is_some_and is_lt (partial_ordering_then (Some (cond less Less (cond equal Equal Greater))) (Some (cond less' Less (cond equal' Equal Greater)))) ≡ (less || (equal && less'))
then_less true equal less' equal' = refl
then_less false true true equal' = refl
then_less false true false true = refl
then_less false true false false = refl
then_less false false less' equal' = refl

pub returns : goal.returns
unfolding comes_before
returns c =
    let x = c.args.x in
    let y = c.args.y in
    c.lt.ensures ∙ then_less (ltb x.a y.a) (eqb x.a y.a) (ltb x.b y.b) (eqb x.b y.b)

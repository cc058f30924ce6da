-- `preferred::preferred` meets its contract. The loop's invariant: the word so far hands in the best values of the first v variables. Assumes nothing.
use mathlib.Core.Path.{ap}
use native.Mathlib.Omega.{arith}
use Rattle.model.specs.Sheet.{Plant}
use Rattle.theory.proofs.Value.{no_values}
use Rattle.preferred.proofs.Laws.{size-at, all-handed, one_more}
use Rattle.preferred.proofs.preferred.Goals as goal

pub loop-v-init : goal.loop-v-init
loop-v-init c = no_values

pub best-x-requires : goal.best-x-requires
best-x-requires c =
    let z = size-at c.args.sizes.now c.args.costs.now c.args.d c.requires c.loop-v.v (omega arith) in
    omega (arith, c.from.ensures)

pub overflow_add-word : goal.overflow_add-word
overflow_add-word c =
    omega (arith, (one_more c.args.sizes.now c.args.costs.now c.args.d c.requires c.loop-v.v c.best-x.result (omega arith) c.from.ensures c.best-x.ensures c.loop-v.invariant).one_word)

pub loop-v-preserved : goal.loop-v-preserved
loop-v-preserved c =
    one_more c.args.sizes.now c.args.costs.now c.args.d c.requires c.loop-v.v c.best-x.result (omega arith) c.from.ensures c.best-x.ensures c.loop-v.invariant

pub returns : goal.returns
returns c p counts lits t =
    rw (ap (λ (q : Plant). q.costs) t.plant) (all-handed c.args.sizes.now c.args.costs.now c.args.d c.requires c.loop-v.v (omega arith) c.loop-v.invariant)

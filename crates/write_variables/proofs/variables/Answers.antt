-- `write_variables::variables` meets its contract: the decision variables are put, then the state variables. Assumes nothing.
use native.Mathlib.Omega.{arith}
use lib.ListN.{length-append}
use Rattle.theory.proofs.Bits.{bits_length}
use Rattle.theory.proofs.Fields.{below_all}
use Rattle.theory.proofs.Puts.{puts_then}
use Rattle.write_variables.proofs.Laws.{decisions-sized, states-sized}
use Rattle.write_variables.proofs.variables.Goals as goal

pub decisions-after-requires : goal.decisions-after-requires
decisions-after-requires c =
    let s = c.args in
    rw c.split_at.ensures.front (decisions-sized s.d s.sizes.now c.requires.0, c.requires.2, omega (arith, simp length-append at c.requires.3), c.requires.4)

pub states-requires : goal.states-requires
states-requires c =
    let halves = c.split_at.ensures in
    let decisions = rw halves.front at c.decisions-after.ensures in
    rw halves.back (states-sized c.args.d c.args.sizes.now c.requires.0, omega (arith, simp length-append at c.requires.3, decisions.ends), omega arith)

pub returns : goal.returns
returns c =
    let halves = c.split_at.ensures in
    let puts = puts_then (omega (arith, bits_length c.args.sheet.now)) (rw halves.front at c.decisions-after.ensures) (rw halves.back at c.states.ensures) in
    (puts, below_all 65536 c.args.costs.now (λ v. omega (arith, c.type_inv.costs v)))

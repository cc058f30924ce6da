-- `read_call::read_call` meets its contract: what was read keeps the promise. Assumes nothing.
use native.Mathlib.Omega.{arith}
use Rattle.theory.proofs.Fields.{below_all}
use Rattle.theory.proofs.WriteRead.{read_promises}
use Rattle.read_call.specs.Lent.{tables_lent}
use Rattle.read_call.proofs.read_call.Goals as goal

pub returns-clause-right : goal.returns-clause-right
returns-clause-right c =
    let s = c.args in
    let before = tables_lent s.sizes.now s.costs.now s.counts.now s.lits.now s.numbers.now in
    rw c.read_through.ensures.1 (read_promises s.sheet.now before (below_all 256 s.sheet.now (λ v. omega (arith, c.type_inv.sheet v))))

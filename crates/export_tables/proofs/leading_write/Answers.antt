-- `leading_write` meets its contract: a refusal leaves the word, and otherwise it is told the number of bytes. Assumes nothing.
use mathlib.Core.Path.{refl, ap}
use mathlib.Core.List.{List}
use Prim.Native.Nat.{ℕ}
use lib.ListN.{get_or}
use Rattle.theory.specs.Tables.{tables_given}
use Rattle.export_tables.proofs.Saving.{write-exported}
use Rattle.export_tables.proofs.leading_write.Goals as goal

pub returns-in-Err : goal.returns-in-Err
returns-in-Err c =
    let s = c.args in
    let told = write-exported (tables_given s.decisions s.states s.clauses s.sizes.now s.costs.now s.counts.now s.literals.now) s.sheet.now (get_or s.bytes.now 0 0) _
    c.write_call.result _ c.in-Err.is c.write_call.ensures.equation c.write_call.ensures.right c.number.ensures refl in
    record { equation = told.0; right = told.1 }

pub returns-in-Ok : goal.returns-in-Ok
returns-in-Ok c =
    let s = c.args in
    let told = write-exported (tables_given s.decisions s.states s.clauses s.sizes.now s.costs.now s.counts.now s.literals.now) s.sheet.now (get_or s.bytes.now 0 0) _
    c.write_call.result _ c.in-Ok.is c.write_call.ensures.equation c.write_call.ensures.right c.told.ensures.0 (ap (λ (l : List ℕ). get_or l 0 0) c.told.ensures.1) in
    record { equation = told.0; right = told.1 }

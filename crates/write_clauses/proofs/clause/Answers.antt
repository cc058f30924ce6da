-- `write_clauses::clause` meets its contract. The loop's invariant: the literals before the place i are put. Assumes nothing.
use native.Mathlib.Omega.{arith}
use Prim.Native.Nat.{◌*◌}
use lib.ListN.{length}
use Rattle.model.specs.Tables.{literals}
use Rattle.theory.proofs.Bits.{bits_length}
use Rattle.theory.proofs.Digits.{digits_length}
use Rattle.theory.proofs.PlantTables.{literals_length}
use Rattle.theory.proofs.Puts.{puts_then}
use Rattle.write_clauses.proofs.Literals.{clause_length, triples_length, literals-first, literal-narrow, literal-room, literals-next, literals-put}
use Rattle.write_clauses.proofs.clause.Goals as goal

pub overflow_cast-triples : goal.overflow_cast-triples
overflow_cast-triples c = omega (arith, triples_length c.triples-triples.result.now c.args.lits.now c.triples-triples.ensures, literals_length c.args.lits.now)

pub put-at-requires : goal.put-at-requires
put-at-requires c =
    let lits = c.args.lits.now in
    let count = triples_length c.triples-triples.result.now lits c.triples-triples.ensures in
    let bits = clause_length (literals lits) in
    (omega arith, omega (arith, count, literals_length lits), omega (arith, bits), omega (arith, bits))

pub loop-triple-init : goal.loop-triple-init
loop-triple-init c = literals-first (rw (← c.triples-triples.ensures) at c.requires.1)

pub literal-at-requires : goal.literal-at-requires
literal-at-requires c =
    let h = c.loop-triple in
    let bits = clause_length (literals c.args.lits.now) in
    let four = digits_length 2 4 (length c.triples-triples.result.now) in
    let room = literal-room c.loop-triple-test.true h.invariant (8 * length c.args.sheet.now) (rw c.triples-triples.ensures (omega (arith, bits, four, c.put-at.ensures.ends))) in
    (literal-narrow c.loop-triple-test.true h.invariant, omega (arith, room), omega arith)

pub loop-triple-preserved : goal.loop-triple-preserved
loop-triple-preserved c =
    let bits = clause_length (literals c.args.lits.now) in
    let four = digits_length 2 4 (length c.triples-triples.result.now) in
    let long = bits_length c.put-at.new.sheet in
    literals-next c.loop-triple-test.true c.loop-triple.invariant (omega (arith, bits, four, long, c.put-at.ensures.ends)) c.literal-at.ensures

pub returns : goal.returns
returns c =
    let bits = clause_length (literals c.args.lits.now) in
    let count = rw (triples_length c.triples-triples.result.now c.args.lits.now c.triples-triples.ensures) at c.put-at.ensures in
    puts_then (omega (arith, bits, bits_length c.args.sheet.now)) count (rw c.triples-triples.ensures at (literals-put c.loop-triple-test.false c.loop-triple.invariant))

-- `write_sheet::write` meets its contract: the head, the variables, the clauses and the filler are put one after another. Assumes nothing.
use native.Mathlib.Omega.{arith}
use lib.ListN.{length}
use Rattle.model.specs.Tables.{Tables, plant_of}
use Rattle.theory.proofs.Fields.{below_all}
use Rattle.theory.proofs.Puts.{puts_then}
use Rattle.table_rules.specs.Given.{given_by}
use Rattle.write_sheet.proofs.Laws.{head_length, sheet-put, bits-parts, ready}
use Rattle.write_sheet.proofs.write.Goals as goal

pub head-at-requires : goal.head-at-requires
head-at-requires c =
    let (fits, room, few) = ready (given_by c.args.tables.now) c.requires.0 (length c.args.sheet.now) c.requires.1 in
    (omega (arith, fits.decisions), omega (arith, fits.states), omega (arith, fits.clauses), omega (arith, room))

pub variables-at-requires : goal.variables-at-requires
variables-at-requires c =
    let t : Tables = given_by c.args.tables.now in
    let (fits, room, few) = ready t c.requires.0 (length c.args.sheet.now) c.requires.1 in
    let place = head_length t.decisions t.states t.clauses in
    (fits.sizes, omega (arith, fits.lengths.sizes), omega (arith, fits.lengths.costs), omega (arith, room, place, c.head-at.ensures.ends), omega (arith, few))

pub clauses-at-requires : goal.clauses-at-requires
clauses-at-requires c =
    let t : Tables = given_by c.args.tables.now in
    let (fits, room, few) = ready t c.requires.0 (length c.args.sheet.now) c.requires.1 in
    let place = head_length t.decisions t.states t.clauses in
    (fits.counts, fits.lengths.literals, fits.literals, omega (arith, room, place, c.head-at.ensures.ends, c.variables-at.ensures.0.ends), omega (arith, few))

pub filler-requires : goal.filler-requires
filler-requires c =
    let t : Tables = given_by c.args.tables.now in
    let (fits, room, few) = ready t c.requires.0 (length c.args.sheet.now) c.requires.1 in
    let place = head_length t.decisions t.states t.clauses in
    (omega (arith, room, place, c.head-at.ensures.ends, c.variables-at.ensures.0.ends, c.clauses-at.ensures.ends), omega (arith, few))

pub returns : goal.returns
returns c =
    let s = c.args in
    let t : Tables = given_by s.tables.now in
    let bits = rw (bits-parts t c.requires.0) at (puts_then (omega arith) (puts_then (omega arith) c.head-at.ensures c.variables-at.ensures.0) c.clauses-at.ensures) in
    let wrote = sheet-put (plant_of t) s.sheet.now c.requires.1 (below_all 256 c.filler.new.sheet (λ v. omega (arith, c.slice_known-5-1.given v))) bits c.filler.ensures in
    (wrote, c.variables-at.ensures.1)

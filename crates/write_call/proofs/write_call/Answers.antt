-- `write_call` meets its contract: its tests are the model's grounds, in their order, and what is lent at the front is the sheet. Assumes nothing.
use mathlib.Core.Path.{refl, ◌∙◌}
use native.Mathlib.Omega.{arith}
use lib.ListN.{length-take}
use lib.Seq.{length-take-le}
use Rattle.std.proofs.lemmas.Result.{err_from_is_err_and}
use Rattle.model.specs.Tables.{Tables}
use Rattle.table_rules.specs.Given.{given_by}
use Rattle.write_sheet.specs.Ruled.{Ruled}
use Rattle.write_call.proofs.Laws.{ruled, most, bytes, lengths-refused, rules_refused, short-refused, sheet-wrote, promised}
use Rattle.write_call.proofs.write_call.Goals as goal

pub returns-in_err-length_ground-clause-equation : goal.returns-in_err-length_ground-clause-equation
returns-in_err-length_ground-clause-equation c =
    let p = err_from_is_err_and c.from_residual.result c.from_residual.ensures.1 in
    rw (p.1, p.2) (lengths-refused (given_by c.args.tables.now) c.args.sheet.now (c.in_err-length_ground.ensures _ _ refl refl))

pub returns-in_err-author_ground-clause-equation : goal.returns-in_err-author_ground-clause-equation
returns-in_err-author_ground-clause-equation c =
    let left = c.from_residual-in_err-author_ground in
    let p = err_from_is_err_and left.result left.ensures.1 in
    rw (p.1, p.2) (rules_refused (given_by c.args.tables.now) c.args.sheet.now (c.in_ok-length_ground.ensures _ _ refl refl) (c.in_err-author_ground.ensures _))

pub sheet_bytes-bytes-requires : goal.sheet_bytes-bytes-requires
sheet_bytes-bytes-requires c =
    let t : Tables = given_by c.args.tables.now in
    let lawful : Ruled t = ruled t (c.in_ok-length_ground.ensures _ _ refl refl) (c.in_ok-author_ground.ensures _) in
    let m = most t lawful in
    (m.sizes, m.costs, m.counts, m.literals)

pub returns-then-room-bytes-clause-equation : goal.returns-then-room-bytes-clause-equation
returns-then-room-bytes-clause-equation c =
    let t : Tables = given_by c.args.tables.now in
    let lawful : Ruled t = ruled t (c.in_ok-length_ground.ensures _ _ refl refl) (c.in_ok-author_ground.ensures _) in
    short-refused t c.args.sheet.now lawful (bytes t lawful c.sheet_bytes-bytes.ensures) c.if-room-bytes.true

pub slice_bounds-write-end-2 : goal.slice_bounds-write-end-2
slice_bounds-write-end-2 c = simp length-take (omega arith)

pub write-requires : goal.write-requires
write-requires c =
    let t : Tables = given_by c.args.tables.now in
    let lawful : Ruled t = ruled t (c.in_ok-length_ground.ensures _ _ refl refl) (c.in_ok-author_ground.ensures _) in
    (lawful, length-take-le _ _ c.if-room-bytes.false ∙ bytes t lawful c.sheet_bytes-bytes.ensures)

pub overflow_cast-result : goal.overflow_cast-result
overflow_cast-result c =
    let t : Tables = given_by c.args.tables.now in
    let lawful : Ruled t = ruled t (c.in_ok-length_ground.ensures _ _ refl refl) (c.in_ok-author_ground.ensures _) in
    let m = most t lawful in
    omega (arith, c.sheet_bytes-bytes.ensures, m.sizes, m.costs, m.counts, m.literals)

pub returns : goal.returns
returns c =
    let t : Tables = given_by c.args.tables.now in
    let lawful : Ruled t = ruled t (c.in_ok-length_ground.ensures _ _ refl refl) (c.in_ok-author_ground.ensures _) in
    let wrote = sheet-wrote t c.args.sheet.now lawful (bytes t lawful c.sheet_bytes-bytes.ensures) c.if-room-bytes.false c.write.ensures.0 in
    record { equation = wrote; right = promised t c.args.sheet.now c.write.ensures.1 wrote }

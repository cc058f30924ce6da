-- `sheet::read` meets its contract: the counts, and then the parts, one after another. Assumes nothing.
use mathlib.Core.Path.{sym, ◌∙◌}
use Rattle.std.proofs.lemmas.Result.{err_from_is_err_and}
use Rattle.model.specs.Sheet.{edition_of, read_sheet}
use Rattle.theory.specs.Tables.{plant_in}
use Rattle.sheet.proofs.Whole.{VariablesRead, ClausesRead, no_clauses, no_end, whole-read}
use Rattle.sheet.proofs.read.Goals as goal

pub returns-in_err-clauses : goal.returns-in_err-clauses
returns-in_err-clauses c =
    let n = c.in_ok-numbers.numbers in
    let v : VariablesRead c.args.sheet.now c.variables.new.sizes c.variables.new.costs n.decisions n.states n.clauses c.variables.new.reader.place (read_sheet (edition_of c.args.weighed) c.args.sheet.now) =
    record { rest = rw (c.head.ensures.sheet, c.in_ok-numbers.ensures.place, c.over-reader.ensures.0) at (c.in_ok-variables.ensures.read n.clauses) ∙ rw c.over-reader.ensures.0 at c.in_ok-numbers.ensures.read; lengths = c.in_ok-variables.ensures.lengths } in
    let p = err_from_is_err_and c.from_residual-in_err-clauses.result c.from_residual-in_err-clauses.ensures.1 in
    rw (p.1, p.2) (no_clauses v (sym (rw (c.variables.ensures.sheet, c.head.ensures.sheet, c.over-reader.ensures.0) at c.in_err-clauses.ensures.read)), tt)

pub returns-in_err-ending : goal.returns-in_err-ending
returns-in_err-ending c =
    let n = c.in_ok-numbers.numbers in
    let v : VariablesRead c.args.sheet.now c.variables.new.sizes c.variables.new.costs n.decisions n.states n.clauses c.variables.new.reader.place (read_sheet (edition_of c.args.weighed) c.args.sheet.now) =
    record { rest = rw (c.head.ensures.sheet, c.in_ok-numbers.ensures.place, c.over-reader.ensures.0) at (c.in_ok-variables.ensures.read n.clauses) ∙ rw c.over-reader.ensures.0 at c.in_ok-numbers.ensures.read; lengths = c.in_ok-variables.ensures.lengths } in
    let q : ClausesRead v c.clauses.new.counts c.clauses.new.lits c.clauses.new.reader.place = record { are = sym (rw (c.variables.ensures.sheet, c.head.ensures.sheet, c.over-reader.ensures.0) at c.in_ok-clauses.ensures.read); room = c.in_ok-clauses.ensures.room } in
    let p = err_from_is_err_and c.from_residual-in_err-ending.result c.from_residual-in_err-ending.ensures.1 in
    rw (p.1, p.2) (no_end q (sym (rw (c.clauses.ensures.sheet, c.variables.ensures.sheet, c.head.ensures.sheet, c.over-reader.ensures.0) at (c.in_err-ending.ensures (plant_in n.decisions n.states n.clauses c.variables.new.sizes c.variables.new.costs c.clauses.new.counts c.clauses.new.lits)))), tt)

pub returns : goal.returns
returns c =
    let n = c.in_ok-numbers.numbers in
    let v : VariablesRead c.args.sheet.now c.variables.new.sizes c.variables.new.costs n.decisions n.states n.clauses c.variables.new.reader.place (read_sheet (edition_of c.args.weighed) c.args.sheet.now) =
    record { rest = rw (c.head.ensures.sheet, c.in_ok-numbers.ensures.place, c.over-reader.ensures.0) at (c.in_ok-variables.ensures.read n.clauses) ∙ rw c.over-reader.ensures.0 at c.in_ok-numbers.ensures.read; lengths = c.in_ok-variables.ensures.lengths } in
    let q : ClausesRead v c.clauses.new.counts c.clauses.new.lits c.clauses.new.reader.place = record { are = sym (rw (c.variables.ensures.sheet, c.head.ensures.sheet, c.over-reader.ensures.0) at c.in_ok-clauses.ensures.read); room = c.in_ok-clauses.ensures.room } in
    let allowed = c.in_ok-numbers.ensures.allowed in (
      whole-read q (sym (rw (c.clauses.ensures.sheet, c.variables.ensures.sheet, c.head.ensures.sheet, c.over-reader.ensures.0) at (c.in_ok-ending.ensures (plant_in n.decisions n.states n.clauses c.variables.new.sizes c.variables.new.costs c.clauses.new.counts c.clauses.new.lits)))),
      record { at_least_one = allowed.0; decisions = allowed.1; states = allowed.2; clauses = allowed.3; lengths = v.lengths; room = q.room },
    )

-- `read_call::read_through` meets its contract: the sheet is refused and nothing is changed, or its tables are at the front of the lent ones. Assumes nothing.
use mathlib.Core.Path.{sym}
use mathlib.Core.Bool.{false}
use native.Mathlib.Omega.{arith}
use lib.Seq.{length-take-le}
use Rattle.std.proofs.lemmas.Result.{err_from_is_err_and}
use Rattle.sheet.proofs.Reading.{Opened, opened}
use Rattle.read_call.specs.Lent.{tables_lent}
use Rattle.read_call.proofs.Filling.{closed, decisions-sized, filled-lent, refused-told, opened-told}
use Rattle.read_call.proofs.read_through.Goals as goal

pub returns-in_err-decisions : goal.returns-in_err-decisions
returns-in_err-decisions c =
    let s = c.args in
    let before = tables_lent s.sizes.now s.costs.now s.counts.now s.lits.now s.numbers.now in
    let p = err_from_is_err_and c.from_residual.result c.from_residual.ensures.1 in
    rw (p.1, p.2) (refused-told s.sheet.now before c.in_err-decisions.field-0.0 (sym c.in_err-decisions.ensures.0))

pub fill_costs-requires : goal.fill_costs-requires
fill_costs-requires c =
    let r = c.read in
    let k = c.in_ok-decisions.field-0 in
    -- an accepted sheet's tables
    let o : Opened false c.args.sheet.now r.new.sizes r.new.costs r.new.counts r.new.lits k.decisions k.states k.clauses =
    opened _ _ _ _ _ _ _ r.ensures c.in_ok-decisions.was (omega (arith, r.auto.sizes)) (omega (arith, r.auto.costs)) (omega (arith, r.auto.counts)) (omega (arith, r.auto.lits)) in
    let long = length-take-le k.decisions r.new.sizes (omega (arith, o.variables)) in
    (decisions-sized o, omega (arith, long, o.tabled.cost-room), omega (arith, long, o.tabled.cost-room))

pub returns : goal.returns
returns c =
    let r = c.read in
    let k = c.in_ok-decisions.field-0 in
    -- an accepted sheet's tables
    let o : Opened false c.args.sheet.now r.new.sizes r.new.costs r.new.counts r.new.lits k.decisions k.states k.clauses =
    opened _ _ _ _ _ _ _ r.ensures c.in_ok-decisions.was (omega (arith, r.auto.sizes)) (omega (arith, r.auto.costs)) (omega (arith, r.auto.counts)) (omega (arith, r.auto.lits)) in
    let s = c.args in
    let before = tables_lent s.sizes.now s.costs.now s.counts.now s.lits.now s.numbers.now in
    opened-told s.sheet.now before _ o
    (filled-lent (closed k.decisions k.states k.clauses r.new.sizes r.new.costs r.new.counts r.new.lits) s.sizes.now s.costs.now s.counts.now s.lits.now s.numbers.now
    c.fill.ensures c.fill_costs.ensures c.fill-2.ensures (rw c.total.ensures.0 at c.fill-3.ensures) c.fill-4.ensures)

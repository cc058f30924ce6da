-- `conflict_call` meets its contract: the reader refuses the sheet, or leaves its plant's tables. Assumes nothing.
use mathlib.Core.Path.{sym}
use native.Mathlib.Omega.{arith}
use lib.Seq.{length-take-le}
use Rattle.std.proofs.lemmas.Result.{err_from_is_err_and}
use Rattle.sheet.proofs.Held.{refused-by}
use Rattle.sheet.proofs.Reading.{Opened, opened}
use Rattle.conflict.proofs.Given.{tabled-limits}
use Rattle.conflict_call.proofs.Asking.{says-read, sheet-refuses, sheet-answers}
use Rattle.conflict_call.proofs.conflict_call.Goals.{In_ok-numbers}
use Rattle.conflict_call.proofs.conflict_call.Goals as goal

pub returns-in_err-numbers : goal.returns-in_err-numbers
returns-in_err-numbers c =
    let s = c.args in
    let e = err_from_is_err_and c.from_residual.result c.from_residual.ensures.1 in
    rw (e.1, e.2) (sheet-refuses s.sheet.now s.mask s.values s.limit (says-read _ c.weighed-weighed.ensures (refused-by _ _ _ _ _ _ c.in_err-numbers.was c.read.ensures.0)))

-- the plant that was read, and its tables
plant : (c : In_ok-numbers)
    → let r = c.read in let n = c.in_ok-numbers.numbers in Opened c.weighed-weighed.result c.args.sheet.now r.new.sizes r.new.costs r.new.counts r.new.lits n.decisions n.states n.clauses
plant c = let r = c.read in opened _ _ _ _ _ _ _ r.ensures c.in_ok-numbers.was r.auto.sizes r.auto.costs r.auto.counts r.auto.lits

pub overflow_add-variables : goal.overflow_add-variables
overflow_add-variables c = record { fits = omega (arith, (plant (goal.at.overflow_add-variables c).In_ok-numbers).variables, c.read.auto.sizes) }

pub slice_bounds-sizes-end : goal.slice_bounds-sizes-end
slice_bounds-sizes-end c = (plant (goal.at.slice_bounds-sizes-end c).In_ok-numbers).variables

pub slice_bounds-conflict_tables-end : goal.slice_bounds-conflict_tables-end
slice_bounds-conflict_tables-end c = sym (length-take-le _ _ (plant (goal.at.slice_bounds-conflict_tables-end c).In_ok-numbers).variables)

pub slice_bounds-counts-end : goal.slice_bounds-counts-end
slice_bounds-counts-end c = (plant (goal.at.slice_bounds-counts-end c).In_ok-numbers).clauses

pub slice_bounds-conflict_tables-end-2 : goal.slice_bounds-conflict_tables-end-2
slice_bounds-conflict_tables-end-2 c = sym (length-take-le _ _ (plant (goal.at.slice_bounds-conflict_tables-end-2 c).In_ok-numbers).clauses)

pub conflict_tables-requires : goal.conflict_tables-requires
conflict_tables-requires c = tabled-limits (plant (goal.at.conflict_tables-requires c).In_ok-numbers).tabled

pub returns : goal.returns
returns c =
    let s = c.args in
    let o = plant (goal.at.returns c).In_ok-numbers in
    sheet-answers s.sheet.now s.mask s.values s.limit (says-read _ c.weighed-weighed.ensures o.read) s.minimal _ (c.conflict_tables.ensures o.plant _ o.tabled)

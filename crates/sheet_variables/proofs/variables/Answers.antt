-- `sheet_variables::variables` meets its contract: the two calls fill two parts of the sizes, one after the other. Assumes nothing.
use Prim.Native.Nat.{◌+◌, ◌-◌, ◌≤◌}
use mathlib.Core.Path.{◌≡◌, sym, ◌∙◌}
use native.Mathlib.Omega.{arith}
use mathlib.Core.List.{◌++◌}
use lib.ListN.{length, take, drop, length-append, length-drop}
use lib.Seq.{length-take-le, take_at}
use borrow.Rule.Slice.PartMut.{mid_len}
use Rattle.std.proofs.lemmas.Result.{err_from_is_err_and}
use Rattle.model.specs.Sheet.{edition_of}
use Rattle.sheet_variables.proofs.Parts.{no_decisions_lem, variables-read, variables-known}
use Rattle.sheet_variables.proofs.variables.Goals as goal

pub decisions-requires : goal.decisions-requires
decisions-requires c =
    let long = length-take-le c.args.d c.args.sizes.now (omega arith) in
    (omega arith, omega arith, omega arith)

pub states-requires : goal.states-requires
states-requires c =
    let start = c.args in
    let long = length-take-le start.d start.sizes.now (omega arith) in
    let sizes = c.decisions.new.sizes ++ drop start.d start.sizes.now in
    let total : start.d + start.s ≤ length sizes = simp (length-append, length-drop) (omega (arith, c.decisions.auto.sizes)) in
    let part = mid_len start.d (start.d + start.s) sizes total in
    (omega (arith, c.decisions.ensures.place), omega arith)

pub returns-in_err-decisions : goal.returns-in_err-decisions
returns-in_err-decisions c =
    let p = err_from_is_err_and c.from_residual.result c.from_residual.ensures.1 in
    let long = length-take-le c.args.d c.args.sizes.now (omega arith) in
    rw (p.1, p.2) record {
      sheet = c.decisions.ensures.sheet;
      place = omega (arith, c.decisions.ensures.place);
      lengths = tt;
      read = λ k. sym (no_decisions_lem _ _ _ _ k _ (rw long at (sym c.in_err-decisions.ensures.read)));
    }

pub returns : goal.returns
returns c =
    let states = c.states in
    let decisions = c.decisions in
    let start = c.args in
    let costs = decisions.new.costs in
    let part = states.new.sizes in
    let long = length-take-le start.d start.sizes.now (omega arith) in
    let sizes = decisions.new.sizes ++ drop start.d start.sizes.now in
    let total : start.d + start.s ≤ length sizes = simp (length-append, length-drop) (omega (arith, decisions.auto.sizes)) in
    let front : take start.d sizes ≡ decisions.new.sizes = take_at _ _ _ (decisions.auto.sizes ∙ long) in
    let first = rw long at (sym c.in_ok-decisions.ensures.read) in
    let same : start.d + start.s - start.d ≡ start.s = omega arith in
    let states_long = mid_len start.d (start.d + start.s) sizes total ∙ same in
    let read = rw (states_long, decisions.ensures.sheet) at states.ensures.read in
    let end = rw states_long at states.ensures.place in record {
      sheet = states.ensures.sheet ∙ decisions.ensures.sheet;
      place = omega (arith, end, decisions.ensures.place, long);
      lengths = variables-known (edition_of start.weighed) start.reader.now.sheet.now start.d start.s 0 0 sizes costs part 0 0 _ states.result (omega arith) (states.auto.sizes ∙ states_long) (rw front c.in_ok-decisions.ensures.lengths);
      read = λ k. variables-read (edition_of start.weighed) start.reader.now.sheet.now start.d start.s k _ sizes costs part _ _ _ states.result (omega arith) (states.auto.sizes ∙ states_long) (rw front first) read;
    }

-- `sheet_clauses::clauses` meets its contract: the clauses in the tables so far and the rest of the readings are all of them. Assumes nothing.
use Prim.Native.Nat.{◌+◌}
use mathlib.Core.Path.{◌≡◌, refl, sym, ap, ◌∙◌}
use native.Mathlib.Omega.{arith}
use mathlib.Core.List.{◌++◌}
use lib.ListN.{take, drop, set, length-set}
use lib.Seq.{length-take-le, take_all, take_at}
use borrow.Rule.Slice.PartMut.{same_len_mid}
use Rattle.model.specs.Sheet.{got}
use Rattle.model.specs.Tables.{clauses, total}
use Rattle.readings.proofs.Tables.{take_write}
use Rattle.sheet_clauses.proofs.Tables.{clauses-write, total_snoc}
use Rattle.readings.proofs.Laws.{begin, turn, stop, done, refused_as}
use Rattle.sheet_clauses.proofs.clauses.Goals as goal

pub loop-count-init : goal.loop-count-init
unfolding clauses total
loop-count-init c = record {
  begins = refl;
  bound = omega arith;
  sheet = refl;
  place = omega arith;
  counts = length-take-le _ _ (omega arith);
  room = refl;
  reading = begin _ _;
}

pub returns-in_err-count-clause-read : goal.returns-in_err-count-clause-read
returns-in_err-count-clause-read c =
    let loop = c.loop-count.invariant in
    refused_as _ _ _ c.from_residual.result c.from_residual.ensures.1 (stop loop.reading (omega arith) (sym (rw loop.sheet at c.in_err-count.ensures.read)))

pub loop-count-preserved : goal.loop-count-preserved
loop-count-preserved c =
    let l = c.loop-count in
    let loop = l.invariant in
    let part = c.clause.new.lits in
    let n = c.in_ok-count.field-0 in
    let sum : total (take (l.count-index + 1) (set l.counts l.count-index n)) ≡ total (take l.count-index l.counts) + n = rw (take_write l.counts l.count-index n (omega arith)) (total_snoc (take l.count-index l.counts) n) in
    let more = clauses-write l.counts l.lits part l.count-index l.from n (omega arith) loop.begins (omega arith) in record {
      begins = omega (arith, sum);
      bound = omega (arith, c.in_ok-count.ensures.count);
      sheet = c.clause.ensures.sheet ∙ loop.sheet;
      place = omega (arith, c.clause.ensures.place);
      counts = length-set l.counts l.count-index n ∙ loop.counts;
      room = same_len_mid l.from _ l.lits part c.clause.auto.lits ∙ loop.room;
      reading = turn loop.reading (omega arith) (sym (rw loop.sheet at c.in_ok-count.ensures.read)) more;
    }

pub returns : goal.returns
returns c =
    let l = c.loop-count in
    let loop = l.invariant in
    let front : take c.args.c (l.counts ++ drop c.args.c c.args.counts.now) ≡ l.counts = take_at _ _ _ loop.counts in
    let all : take l.count-index l.counts ≡ l.counts = take_all l.count-index l.counts (omega arith) in
    let sum = rw all at loop.begins in record {
      sheet = loop.sheet;
      place = omega arith;
      room = rw front (omega (arith, sum));
      read = ap (λ s. got (clauses s l.lits) l.reader.place) (front ∙ sym all) ∙ sym (done loop.reading (omega arith));
    }

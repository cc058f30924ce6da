-- What one write took behind the front is the text's next bytes.
use Rattle.std.proofs.Common.{rules}
use Rattle.std.proofs.KnownBytes.{Appends-trans}
use Rattle.std.proofs.Math.Seq.{take-add}
use Rattle.printing.proofs.Front.{left-whole}
use Rattle.printing.proofs.print_text.Goals as goal

pub loop-done-preserved : goal.loop-done-preserved
loop-done-preserved g c = record {
  within = search rules;
  put = rw (take-add c.loop-done.done c.in_ok-n.n c.args.text.now) (rw (left-whole c.args.text.now c.loop-done.done) at (Appends-trans _ _ _ _ _ c.loop-done.invariant.put c.in_ok-n.ensures.bytes));
}

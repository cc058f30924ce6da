-- `answer_text::put_run` meets its contract: the states' lines, the ending and the counts are put one after another. Assumes nothing.
use mathlib.Core.Path.{ap}
use mathlib.Core.List.{append_assoc}
use lib.ListN.{length}
use native.Mathlib.Omega.{arith}
use Rattle.model.specs.Text.{ending_word, counts_line, ending_line}
use Rattle.judge.specs.Standing.{ending_of}
use Rattle.listing.specs.Listing.{counts_of}
use Rattle.theory.proofs.Puts.{puts_then}
use Rattle.lines.specs.Lines.{lines_of}
use Rattle.answer_text.proofs.Room.{run_length}
use Rattle.answer_text.proofs.put_run.Goals as goal

pub put_states-listed-requires : goal.put_states-listed-requires
put_states-listed-requires c =
    let s = c.args in
    (c.requires.0, c.requires.1, omega (arith, run_length s.codes.now s.costs.now s.ran))

pub put_bytes-ended-requires : goal.put_bytes-ended-requires
put_bytes-ended-requires c = let s = c.args in omega (arith, run_length s.codes.now s.costs.now s.ran, ap length c.word.ensures)

pub put_counts-requires : goal.put_counts-requires
put_counts-requires c = let s = c.args in omega (arith, run_length s.codes.now s.costs.now s.ran, ap length c.word.ensures)

pub returns : goal.returns
unfolding ending_line
returns c =
    let s = c.args in
    rw (← append_assoc (lines_of s.codes.now s.costs.now s.ran.counts.listed) (ending_word (ending_of s.ran.ending)) (counts_line (counts_of s.ran.counts)))
    (puts_then (omega arith) (puts_then (omega arith) c.put_states-listed.ensures (rw (← c.word.ensures) c.put_bytes-ended.ensures)) c.put_counts.ensures)

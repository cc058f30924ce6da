-- A run's text: its length, and that its buffer has room for it. Assumes nothing.
use mathlib.Core.Path.{◌≡◌}
use mathlib.Core.List.{List}
use Prim.Native.Nat.{ℕ, ◌+◌, ◌≤◌}
use native.Mathlib.Omega.{arith}
use lib.ListN.{length, length-append}
use Rattle.model.specs.Listing.{Ending, enough, all, full}
use Rattle.model.specs.Text.{wanted_states, ending_word, counts_line, ending_line}
use Rattle.lines.specs.Lines.{lines_of}
use Rattle.lines.proofs.Room.{listed-most, counts-most}
use Rattle.judge.specs.Standing.{ending_of}
use Rattle.listing.specs.declared.Ran.{Ran}
use Rattle.listing.specs.Listing.{counts_of}
use Rattle.answer_text.specs.Room.{run_text, word_bytes, text_bytes}

-- its parts
pub run_length : (codes costs : List ℕ) (r : Ran) → length (run_text codes costs r) ≡ length (lines_of codes costs r.counts.listed) + (length (ending_word (ending_of r.ending)) + length (counts_line (counts_of r.counts)))
unfolding ending_line
run_length codes costs r = simp length-append

-- an ending's word
word-most : (e : Ending) → length (ending_word e) ≤ word_bytes
word-most enough = omega arith
word-most all = omega arith
word-most full = omega arith
word-most Ending.spent = omega arith

-- a run's text
pub run-most : (codes costs : List ℕ) (r : Ran) → r.counts.listed ≤ wanted_states → length (run_text codes costs r) ≤ text_bytes
run-most codes costs r h =
    let c = r.counts in
    omega
    (arith, run_length codes costs r, listed-most codes costs c.listed, word-most (ending_of r.ending), counts-most c.listed c.tested c.learned c.unkept c.trials)

-- The text of a run as its words give it, and the bytes that no text of the program exceeds. Assumes nothing: these are definitions.
use Rattle.std.specs.Prelude.{List, ◌++◌, ℕ, ◌+◌, ◌*◌}
use Rattle.model.specs.Text.{wanted_states, ending_line}
use Rattle.lines.specs.Lines.{lines_of, line_bytes, counts_bytes}
use Rattle.judge.specs.Standing.{ending_of}
use Rattle.listing.specs.declared.Ran.{Ran}
use Rattle.listing.specs.Listing.{counts_of}

-- the text of a run
abbrev pub run_text : (codes costs : List ℕ) → Ran → List ℕ
run_text codes costs r = lines_of codes costs r.counts.listed ++ ending_line (ending_of r.ending) (counts_of r.counts)

-- the bytes of an ending's word at most
abbrev pub word_bytes : ℕ
word_bytes = 7

-- the bytes of the text at most
abbrev pub text_bytes : ℕ
text_bytes = wanted_states * line_bytes + word_bytes + counts_bytes

-- The text for a sheet is that of the listing call's answer, and what puts that text puts the sheet's. Assumes nothing.
use mathlib.Core.Path.{◌≡◌, ap, ◌∙◌}
use mathlib.Core.List.{List}
use Prim.Native.Nat.{ℕ, ◌≤◌}
use native.Mathlib.Omega.{arith}
use lib.ListN.{length}
use Rattle.model.specs.Calls.{Refusal, refusal_number, Answer, refused, answered, Buffers, ran, listing_call}
use Rattle.model.specs.Text.{wanted_states, trial_limit, program_buffers, answer_text, refusal_line, leading_text}
use Rattle.theory.specs.Puts.{written, Puts}
use Rattle.theory.proofs.Puts.{written_length}
use Rattle.judge.specs.Standing.{ending_of}
use Rattle.listing.specs.declared.Ran.{Ran}
use Rattle.listing.specs.Listing.{counts_of}
use Rattle.listing_call.specs.Calls.{shown}
use Rattle.answer_text.specs.Room.{run_text}

-- the listing call as the program makes it shows this answer and these buffers
abbrev pub Shows : List ℕ → Answer → Buffers → Type 0
Shows sheet answer after = shown (listing_call sheet wanted_states program_buffers 0 trial_limit) ≡ (answer, after)

module _ (sheet : List ℕ) (answer : Answer) (after : Buffers) (e : Shows sheet answer after) where
  text_shown : leading_text sheet ≡ answer_text answer after
  unfolding leading_text
  text_shown = ap (λ (s : Answer × Buffers). answer_text s.0 s.1) e

pub refused_text : (sheet : List ℕ) (r : Refusal) (after : Buffers) → Shows sheet (refused r) after → leading_text sheet ≡ refusal_line (refusal_number r)
unfolding answer_text
refused_text sheet r after e = text_shown sheet (refused r) after e

pub ran_text : (sheet : List ℕ) (r : Ran) (after : Buffers) → Shows sheet (answered (ran (ending_of r.ending) (counts_of r.counts))) after → leading_text sheet ≡ run_text after.codes after.costs r
unfolding answer_text
ran_text sheet r after s = text_shown sheet (answered (ran (ending_of r.ending) (counts_of r.counts))) after s

-- a text that was put from the start of the buffer
pub puts_whole : {text whole before after : List ℕ} {next : ℕ} → whole ≡ text → length text ≤ length before → Puts 0 text before next after
    → ((after ≡ written 0 whole before) × (next ≡ length whole)) × (next ≤ length after)
puts_whole {text} {whole} {before} {after} {next} e h p =
    let kept : length after ≡ length before = ap length p.buffer ∙ written_length 0 text before (omega arith) in
    ((rw e p.buffer, rw e (omega (arith, p.ends))), omega (arith, p.ends))

-- The lengths of lines, and the lines of states one after another. Assumes nothing.
use mathlib.Core.Path.{◌≡◌, sym, ap, ◌∙◌}
use mathlib.Core.List.{List, [], ◌∷◌, ◌++◌, append_assoc, append-nil}
use Prim.Native.Nat.{ℕ, suc, ◌+◌, ◌-◌, ◌≤◌, ◌<◌}
use native.Mathlib.Omega.{arith}
use lib.ListN.{length, get_or, take, drop, length-append}
use lib.Seq.{drop-cons}
use native.Mathlib.Nat.{sub-zero}
use native.Mathlib.Numerals.{add-one}
use Rattle.model.specs.Order.{Entry}
use Rattle.model.specs.Calls.{entries_of}
use Rattle.model.specs.Text.{decimal, code_digits, state_line, state_lines, counts_line, refusal_line}
use Rattle.theory.proofs.Decimal.{hexadecimal_length}
use Rattle.theory.specs.Puts.{Puts}
use Rattle.theory.proofs.Puts.{puts_none, puts_then}
use Rattle.lines.specs.Lines.{line_of, lines_of, counts_of}

-- ---- lengths

-- a state's line: its numbers, its code, two spaces and a line feed
pub line_length : (rank cost code : ℕ) → length (line_of rank cost code) ≡ length (decimal rank) + 1 + length (decimal cost) + 1 + code_digits + 1
unfolding state_line
line_length rank cost code = simp (length-append, hexadecimal_length)

-- the counts' line: five numbers, four names and a line feed
pub counts_length : (listed tested learned unkept trials : ℕ) → length (counts_of listed tested learned unkept trials)
    ≡ length (decimal listed) + 8 + length (decimal tested) + 9 + length (decimal learned) + 8 + length (decimal unkept) + 8 + length (decimal trials) + 1
unfolding counts_line
counts_length listed tested learned unkept trials = simp length-append

-- the refusal's line: the word, the number and a line feed
pub refusal_length : (n : ℕ) → length (refusal_line n) ≡ 8 + length (decimal n) + 1
unfolding refusal_line
refusal_length n = simp length-append

-- ---- the lines of states

-- the states from place i on
abbrev pub states_from : (codes costs : List ℕ) (listed i : ℕ) → List Entry
states_from codes costs listed i = entries_of (take (listed - i) (drop i codes)) (take (listed - i) (drop i costs))

-- the lines before place i are put: what is put and the lines from there on are all lines
pub record LinesTo (place : ℕ) (codes costs before : List ℕ) (listed i next : ℕ) (out : List ℕ) : Type 0 where
  pub sofar : List ℕ
  pub puts : Puts place sofar before next out
  pub whole : sofar ++ state_lines (i + 1) (states_from codes costs listed i) ≡ lines_of codes costs listed

module _ (place : ℕ) (codes costs before : List ℕ) (listed : ℕ) where
  pub lines_start : LinesTo place codes costs before listed 0 place before
  lines_start = record { sofar = []; puts = puts_none place before; whole = rw (sub-zero listed) }

  -- the states from a place on are the one there and those after it
  states-next : (i : ℕ) → i < listed → listed ≤ length codes → listed ≤ length costs
      → states_from codes costs listed i ≡ record { code = get_or codes i 0; figure = get_or costs i 0 } ∷ states_from codes costs listed (i + 1)
  states-next i l p q =
      let e : listed - i ≡ suc (listed - (i + 1)) = omega arith in
      rw (drop-cons codes i 0 (omega arith), drop-cons costs i 0 (omega arith), e, add-one i)

  -- the line there and those after it
  lines_next : (i : ℕ) → i < listed → listed ≤ length codes → listed ≤ length costs
      → state_lines (i + 1) (states_from codes costs listed i) ≡ line_of (i + 1) (get_or costs i 0) (get_or codes i 0) ++ state_lines (i + 1 + 1) (states_from codes costs listed (i + 1))
  unfolding state_lines
  lines_next i l p q = rw (states-next i l p q)

  module _ (i next : ℕ) (out : List ℕ) (l : i < listed) (p : listed ≤ length codes) (q : listed ≤ length costs) (s : LinesTo place codes costs before listed i next out) where
    -- the line there finds room
    pub lines-room : place + length (lines_of codes costs listed) ≤ length before → next + length (line_of (i + 1) (get_or costs i 0) (get_or codes i 0)) ≤ length before
    lines-room h =
        let line = line_of (i + 1) (get_or costs i 0) (get_or codes i 0) in
        let rest = state_lines (i + 1 + 1) (states_from codes costs listed (i + 1)) in
        let e : length s.sofar + length (state_lines (i + 1) (states_from codes costs listed i)) ≡ length (lines_of codes costs listed) =
        sym (length-append s.sofar (state_lines (i + 1) (states_from codes costs listed i))) ∙ ap length s.whole in
        let f : length (state_lines (i + 1) (states_from codes costs listed i)) ≡ length line + length rest = ap length (lines_next i l p q) ∙ length-append line rest in
        omega (arith, s.puts.ends)

    pub lines_step : (next' : ℕ) (out' : List ℕ) → place ≤ length before → Puts next (line_of (i + 1) (get_or costs i 0) (get_or codes i 0)) out next' out'
        → LinesTo place codes costs before listed (i + 1) next' out'
    lines_step next' out' h t = record {
      sofar = s.sofar ++ line_of (i + 1) (get_or costs i 0) (get_or codes i 0);
      puts = puts_then h s.puts t;
      whole = append_assoc s.sofar (line_of (i + 1) (get_or costs i 0) (get_or codes i 0)) (state_lines (i + 1 + 1) (states_from codes costs listed (i + 1)))
          ∙ ap (λ (t : List ℕ). s.sofar ++ t) (sym (lines_next i l p q))
          ∙ s.whole;
    }

  pub lines_end : (i next : ℕ) (out : List ℕ) → listed ≤ i → LinesTo place codes costs before listed i next out → Puts place (lines_of codes costs listed) before next out
  unfolding state_lines
  lines_end i next out l s =
      let e : listed - i ≡ 0 = omega arith in
      let f : s.sofar ≡ lines_of codes costs listed = sym (append-nil s.sofar) ∙ (rw e at s.whole) in
      rw f at s.puts

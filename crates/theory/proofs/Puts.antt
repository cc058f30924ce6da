-- Laws of a buffer with a text put into it: one byte before the text, one text after another, and a text put part by part. Assumes nothing.
use mathlib.Core.Path.{◌≡◌, refl, sym, ap, ap₂, ◌∙◌}
use mathlib.Core.List.{List, [], ◌∷◌, ◌++◌, append_assoc, append-nil}
use Prim.Native.Nat.{ℕ, suc, ◌+◌, ◌-◌, ◌≤◌, ◌<◌}
use native.Mathlib.Omega.{arith}
use native.Mathlib.Nat.{add-zero}
use native.Mathlib.Numerals.{add-one}
use lib.ListN.{length, get_or, take, drop, set, length-append, length-drop, take-append-drop, drop_of_length-le}
use lib.Seq.{length-take-le, take-suc, set_at, take_at, drop-append-add, drop-cons, drop-drop}
use Rattle.model.specs.Lists.{in_turn, filled}
use Rattle.theory.specs.Puts.{written, Puts}

-- what stands before the rest is as long as it should be
head_length : (place : ℕ) (text before : List ℕ) → place ≤ length before → length (take place before ++ text) ≡ place + length text
head_length place text before h = rw (length-append (take place before) text, length-take-le place before h)

-- the buffer stays as long as it was
pub written_length : (place : ℕ) (text before : List ℕ) → place + length text ≤ length before → length (written place text before) ≡ length before
unfolding written
written_length place text before h = rw (length-append (take place before ++ text) (drop (place + length text) before), head_length place text before (omega arith), length-drop (place + length text) before) (omega arith)

-- no text changes nothing
pub written_none : (place : ℕ) (before : List ℕ) → written place [] before ≡ before
unfolding written
written_none place before = rw (append-nil (take place before), add-zero place) (take-append-drop place before)

-- what is left n places past a first list
pub drop_past : (xs ys : List ℕ) (m n : ℕ) → length xs ≡ m → drop (m + n) (xs ++ ys) ≡ drop n ys
drop_past xs ys m n e = rw (← e) (drop-append-add xs ys n)

-- one text put after another is the two put as one
pub written_then : (place : ℕ) (s t before : List ℕ) → place ≤ length before → written (place + length s) t (written place s before) ≡ written place (s ++ t) before
unfolding written
written_then place s t before h =
    let top = take place before ++ s in
    let mid = place + length s in
    let e : length top ≡ mid = head_length place s before h in
    let end : mid + length t ≡ place + length (s ++ t) = omega (arith, length-append s t) in
    rw (take_at top (drop mid before) mid e, drop_past top (drop mid before) mid (length t) e, drop-drop (length t) mid before, end, append_assoc (take place before) s t)

-- a byte put before a text
pub written_one : (place x : ℕ) (text before : List ℕ) → suc place + length text ≤ length before → set (written (suc place) text before) place x ≡ written place (x ∷ text) before
unfolding written
written_one place x text before h =
    let top = take place before in
    let old = get_or before place 0 in
    let rest = drop (suc place + length text) before in
    let apart : take (suc place) before ++ text ++ rest ≡ top ++ (old ∷ (text ++ rest)) = rw (take-suc before place 0 (omega arith)) (simp append_assoc) in
    let end : place + suc (length text) ≡ suc place + length text = omega arith in
    rw (apart, set_at top old (text ++ rest) x place (length-take-le place before (omega arith)), end) (sym (append_assoc top (x ∷ text) rest))

-- the same, of a text put at a place and i more
pub written_back : (place i x : ℕ) (text longer before : List ℕ) → 0 < i → place + i + length text ≤ length before → longer ≡ x ∷ text
    → set (written (place + i) text before) (place + (i - 1)) x ≡ written (place + (i - 1)) longer before
written_back place i x text longer before p h e =
    let f : place + i ≡ suc (place + (i - 1)) = omega arith in
    rw (e, f) (written_one (place + (i - 1)) x text before (omega arith))

-- a text put behind what fills a buffer fills it further
pub filled-then : (xs text buffer : List ℕ) → written (length xs) text (filled xs buffer) ≡ filled (xs ++ text) buffer
unfolding written
filled-then xs text buffer =
    let rest = drop (length xs) buffer in
    rw (take_at xs rest (length xs) refl, drop_past xs rest (length xs) (length text) refl, drop-drop (length text) (length xs) buffer, length-append xs text)

-- a text put at the front fills the first places
pub puts-front : {text before after : List ℕ} {next : ℕ} → Puts 0 text before next after → after ≡ filled text before
unfolding written
puts-front {text} p = let e : 0 + length text ≡ length text = omega arith in p.buffer ∙ rw e

-- and one that is as long as the buffer is all of it
pub puts_whole : {text before after : List ℕ} {next : ℕ} → Puts 0 text before next after → length before ≡ length text → after ≡ text
puts_whole {text} {before} p e = puts-front p ∙ rw (drop_of_length-le before {i = length text} (omega arith)) (append-nil text)

-- ---- a run of texts

-- no text
pub puts_none : (place : ℕ) (before : List ℕ) → Puts place [] before place before
puts_none place before = record { buffer = sym (written_none place before); ends = omega arith }

module _ {place mid next : ℕ} {before between after : List ℕ} (within : place ≤ length before) where
  -- a text after what was put
  pub puts_then : {s t : List ℕ} → Puts place s before mid between → Puts mid t between next after → Puts place (s ++ t) before next after
  puts_then {s} {t} p q = record {
    buffer = q.buffer ∙ ap₂ (λ (k : ℕ) (b : List ℕ). written k t b) p.ends p.buffer ∙ written_then place s t before within;
    ends = omega (arith, length-append s t);
  }

  -- two texts after what was put
  pub puts-pair : (t u : List ℕ) {s : List ℕ} → Puts place s before mid between → Puts mid (t ++ u) between next after → Puts place (s ++ t ++ u) before next after
  puts-pair t u {s} p q = rw (append_assoc s t u) (puts_then p q)

-- ---- a text put part by part, as a loop does

-- what stands before the rest of a text was put at a place
pub record PutsBefore (place : ℕ) (text rest before : List ℕ) (next : ℕ) (after : List ℕ) : Type 0 where
  pub part : List ℕ
  pub puts : Puts place part before next after
  pub whole : part ++ rest ≡ text

pub part-start : (place : ℕ) (text before : List ℕ) → PutsBefore place text text before place before
part-start place text before = record { part = []; puts = puts_none place before; whole = refl }

module _ {place mid : ℕ} {text rest before between : List ℕ} (p : PutsBefore place text rest before mid between) where
  -- the part that comes next finds room where the text does
  pub part_room : (new more : List ℕ) (room : ℕ) → rest ≡ new ++ more → place + length text ≤ room → mid + length new ≤ room
  part_room new more room e h =
      let a : length p.part + length rest ≡ length text = sym (length-append p.part rest) ∙ ap length p.whole in
      let b : length rest ≡ length new + length more = ap length e ∙ length-append new more in
      omega (arith, p.puts.ends)

  -- one part more
  pub part_step : {new more : List ℕ} {next : ℕ} {after : List ℕ} → place ≤ length before → rest ≡ new ++ more → Puts mid new between next after → PutsBefore place text more before next after
  part_step {new} {more} h e q = record {
    part = p.part ++ new;
    puts = puts_then h p.puts q;
    whole = append_assoc p.part new more ∙ ap (λ (t : List ℕ). p.part ++ t) (sym e) ∙ p.whole;
  }

pub part_end : {place next : ℕ} {text rest before after : List ℕ} → rest ≡ [] → PutsBefore place text rest before next after → Puts place text before next after
part_end e p =
    let f : p.part ≡ _ = sym (append-nil p.part) ∙ ap (λ (t : List ℕ). p.part ++ t) (sym e) ∙ p.whole in
    rw f at p.puts

-- what the members from place i on give in turn: what the one there gives, then the others
pub in_turn-next : {A : Type 0} (give : A → List ℕ) (xs : List A) (i : ℕ) (d : A) → i < length xs → in_turn give (drop i xs) ≡ give (get_or xs i d) ++ in_turn give (drop (i + 1) xs)
in_turn-next give xs i d h = rw (drop-cons xs i d h, add-one i)

-- past the last member there is nothing
pub in_turn-past : {A : Type 0} (give : A → List ℕ) (xs : List A) (i : ℕ) → length xs ≤ i → in_turn give (drop i xs) ≡ []
in_turn-past give xs i h = rw (drop_of_length-le xs h)

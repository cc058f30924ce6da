-- The clauses of decoded tables, read from the front: what stands at a place of the bytes, and what is left after it. Assumes nothing.
use mathlib.Core.Path.{◌≡◌, refl, sym, ap, ◌∙◌}
use mathlib.Core.List.{List, [], ◌∷◌, ◌++◌}
use Prim.Native.Nat.{ℕ, zero, suc, ◌+◌, ◌*◌, ◌≤◌, ◌<◌}
use native.Mathlib.Omega.{arith}
use native.Mathlib.Numerals.{add-one}
use lib.ListN.{length, get_or, take, drop, length-drop, drop_of_length-le}
use lib.Seq.{drop-cons, drop-drop, get_or-drop}
use Rattle.model.specs.Lists.{All}
use Rattle.model.specs.Sheet.{Literal}
use Rattle.model.specs.Tables.{literals, clauses, total}
use Rattle.theory.specs.Search.{nth}

-- ---- literals

drop1 : (l : List ℕ) (i j : ℕ) → j ≡ i + 1 → i < length l → drop i l ≡ get_or l i 0 ∷ drop j l
drop1 l i j e h = rw (e, add-one, drop-cons l i 0)

-- the literal of three bytes
abbrev pub literal_at : List ℕ → ℕ → Literal
literal_at l i = record { variable = get_or l i 0; sign = get_or l (i + 1) 0; value = get_or l (i + 2) 0 }

-- where three bytes are left, they are the next literal
pub literals-step : (l : List ℕ) (i : ℕ) → i + 2 < length l → literals (drop i l) ≡ literal_at l i ∷ literals (drop (i + 3) l)
unfolding literals
literals-step l i h = rw (drop1 l i (i + 1) refl (omega arith), drop1 l (i + 1) (i + 2) (omega arith) (omega arith), drop1 l (i + 2) (i + 3) (omega arith) h)

-- where fewer are left, there is none
pub literals_end : (l : List ℕ) (i : ℕ) → length l ≤ i + 2 → literals (drop i l) ≡ []
unfolding literals
literals_end l i h = short (drop i l) (simp length-drop (omega arith))
  where
    short : (l : List ℕ) → length l ≤ 2 → literals l ≡ []
    short [] h = refl
    short (x ∷ []) h = refl
    short (x ∷ s ∷ []) h = refl
    short (x ∷ s ∷ w ∷ b) h = absurd (omega arith)

-- those of whole literals and of what comes after them
pub literals-join : (n : ℕ) (xs ys : List ℕ) → length xs ≡ 3 * n → literals (xs ++ ys) ≡ literals xs ++ literals ys
unfolding literals
literals-join zero [] ys e = refl
literals-join zero (v ∷ xs) ys e = absurd (omega arith)
literals-join (suc n) [] ys e = absurd (omega arith)
literals-join (suc n) (v ∷ []) ys e = absurd (omega arith)
literals-join (suc n) (v ∷ s ∷ []) ys e = absurd (omega arith)
literals-join (suc n) (v ∷ s ∷ x ∷ xs) ys e = ap (λ (ls : List Literal). record { variable = v; sign = s; value = x } ∷ ls) (literals-join n xs ys (omega arith))

-- ---- clauses

-- there are as many clauses as counts
pub clauses_length : (counts lits : List ℕ) → length (clauses counts lits) ≡ length counts
unfolding clauses
clauses_length [] lits = refl
clauses_length (n ∷ counts) lits = ap suc (clauses_length counts (drop (3 * n) lits))

-- at the clause i, whose literals begin at the byte `from`, where each literal's variable is below n
pub record Along (n : ℕ) (counts lits : List ℕ) (i from : ℕ) : Type 0 where
  pub upto : i ≤ length counts
  pub room : from + 3 * total (drop i counts) ≤ length lits
  pub rest : drop i (clauses counts lits) ≡ clauses (drop i counts) (drop from lits)
  pub below : All (All (λ l. l.variable < n)) (drop i (clauses counts lits))

module _ (n : ℕ) (counts lits : List ℕ) where
  pub along-first : 3 * total counts ≤ length lits → All (All (λ l. l.variable < n)) (clauses counts lits) → Along n counts lits 0 0
  along-first room below = record { upto = omega arith; room = omega arith; rest = refl; below = below }

  module _ (i from : ℕ) (along : Along n counts lits i from) where
    -- behind the last clause nothing is left
    pub along-end : length counts ≤ i → drop i (clauses counts lits) ≡ []
    along-end h = drop_of_length-le (clauses counts lits) {i = i} (omega (arith, clauses_length counts lits))

    module _ (lt : i < length counts) where
      total-step : total (drop i counts) ≡ get_or counts i 0 + total (drop (i + 1) counts)
      unfolding total
      total-step = ap total (drop1 counts i (i + 1) refl lt)

      -- the bytes of the clause are there
      pub along-room : from + 3 * get_or counts i 0 ≤ length lits
      along-room = omega (arith, along.room, total-step)

      -- and hold it
      opened : drop i (clauses counts lits) ≡ literals (take (3 * get_or counts i 0) (drop from lits)) ∷ clauses (drop (i + 1) counts) (drop (from + 3 * get_or counts i 0) lits)
      unfolding clauses
      opened = along.rest ∙ rw (drop1 counts i (i + 1) refl lt, ← drop-drop (3 * get_or counts i 0) from lits)

      after : clauses (drop (i + 1) counts) (drop (from + 3 * get_or counts i 0) lits) ≡ drop (i + 1) (clauses counts lits)
      after = sym (sym (drop-drop 1 i (clauses counts lits)) ∙ ap (λ (l : List (List Literal)). drop 1 l) opened)

      pub along-opened : drop i (clauses counts lits) ≡ literals (take (3 * get_or counts i 0) (drop from lits)) ∷ drop (i + 1) (clauses counts lits)
      along-opened = opened ∙ ap (λ (l : List (List Literal)). literals (take (3 * get_or counts i 0) (drop from lits)) ∷ l) after

      pub along-nth : nth (clauses counts lits) i ≡ literals (take (3 * get_or counts i 0) (drop from lits))
      along-nth =
          let z : i + 0 ≡ i = omega arith in
          sym (rw z at (get_or-drop i (clauses counts lits) 0 [])) ∙ ap (λ (l : List (List Literal)). nth l 0) opened

      both : All (λ l. l.variable < n) (literals (take (3 * get_or counts i 0) (drop from lits))) × All (All (λ l. l.variable < n)) (drop (i + 1) (clauses counts lits))
      both = rw along-opened at along.below

      pub along-below : All (λ l. l.variable < n) (literals (take (3 * get_or counts i 0) (drop from lits)))
      along-below = both.0

      pub along-next : Along n counts lits (i + 1) (from + 3 * get_or counts i 0)
      along-next = record { upto = omega arith; room = omega (arith, along.room, total-step); rest = sym after; below = both.1 }

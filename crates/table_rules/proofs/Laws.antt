-- What bytes add up to, the literals that they hold, tests of each member, and the first ground that a test finds. Assumes nothing.
use mathlib.Core.Path.{◌≡◌, refl, ap, ◌∙◌}
use mathlib.Core.Bool.{Bool, true, false, not, ◌&&◌}
use mathlib.Core.Option.{Option, none, some}
use mathlib.Core.List.{List, [], ◌∷◌, map}
use Prim.Native.Nat.{ℕ, zero, suc, ◌+◌, ◌*◌, ◌/◌, ◌≤◌, ◌<◌}
use native.Mathlib.Omega.{arith}
use native.Mathlib.Numerals.{add-one}
use lib.Dec.{leb}
use lib.ListN.{length, get_or, drop, drop_of_length-le}
use lib.Seq.{drop-cons}
use borrow.Author.Tests.{lt-ltb, le-ltb, le-leb, lt-leb}
use Rattle.std.specs.List.{fold, sum, list_all}
use Rattle.std.specs.Simd.{first_chunks}
use Rattle.model.specs.Lists.{all_of, in_turn}
use Rattle.model.specs.Sheet.{Literal, edition1, decisions_allowed}
use Rattle.model.specs.Calls.{first_given}
use Rattle.model.specs.Tables.{Tables, total, literals}
use Rattle.model.specs.TableCalls.{lengths_agree, fields_fit, length_grounds, literal_grounds, table_grounds}
use Rattle.table_rules.specs.Triple.{literal_of}

-- ---- what numbers add up to

folded : (a : ℕ) (xs : List ℕ) → fold (λ a x. a + x) a xs ≡ a + total xs
unfolding total
folded a [] = omega arith
folded a (x ∷ xs) = folded (a + x) xs ∙ omega arith

pub summed : (xs : List ℕ) → sum xs ≡ total xs
summed xs = folded 0 xs ∙ omega arith

pub bytes_most : (xs : List ℕ) → ((i : ℕ) → get_or xs i 0 < 256) → total xs ≤ 255 * length xs
unfolding total
bytes_most [] h = omega arith
bytes_most (x ∷ xs) h = omega (arith, h 0, bytes_most xs (λ i. h (suc i)))

-- ---- a test of each member

both : (a b : Bool) → (a && b) ≡ elim a [ true ↦ b | false ↦ false ]
both true b = refl
both false b = refl

pub tested : {A : Type 0} (test : A → Bool) (xs : List A) → list_all test xs ≡ all_of test xs
tested test [] = refl
tested test (x ∷ xs) = rw (tested test xs) (both (test x) (all_of test xs))

-- ---- the literals of bytes

-- three bytes at a time
pub in_threes : (k : ℕ) (bytes : List ℕ) → k ≡ length bytes / 3 → map literal_of (first_chunks 3 k bytes) ≡ literals bytes
unfolding literals
in_threes zero [] e = refl
in_threes zero (v ∷ []) e = refl
in_threes zero (v ∷ s ∷ []) e = refl
in_threes zero (v ∷ s ∷ x ∷ bytes) e = absurd (omega arith)
in_threes (suc k) [] e = absurd (omega arith)
in_threes (suc k) (v ∷ []) e = absurd (omega arith)
in_threes (suc k) (v ∷ s ∷ []) e = absurd (omega arith)
in_threes (suc k) (v ∷ s ∷ x ∷ bytes) e = ap (λ (ls : List Literal). record { variable = v; sign = s; value = x } ∷ ls) (in_threes k bytes (omega arith))

-- those of the triples from the place i on
pub triples-step : (ts : List (List ℕ)) (i : ℕ) → i < length ts → map literal_of (drop i ts) ≡ literal_of (get_or ts i []) ∷ map literal_of (drop (i + 1) ts)
triples-step ts i h = rw (add-one, drop-cons ts i [])

pub triples-end : (ts : List (List ℕ)) (i : ℕ) → length ts ≤ i → map literal_of (drop i ts) ≡ []
triples-end ts i h = ap (map literal_of) (drop_of_length-le ts {i = i} h)

-- ---- the grounds of literals

module _ (domains : List ℕ) {ls : List Literal} where
  module _ {l : Literal} {rest : List Literal} (e : ls ≡ l ∷ rest) where
    pub absent : length domains ≤ l.variable → first_given (in_turn (literal_grounds domains) ls) ≡ some 10
    unfolding first_given literal_grounds
    absent h = rw (e, literal_grounds, le-ltb l.variable (length domains) h)

    module _ (present : l.variable < length domains) where
      pub outside : get_or domains l.variable 0 ≤ l.value → first_given (in_turn (literal_grounds domains) ls) ≡ some 11
      unfolding first_given literal_grounds
      outside h = rw (e, literal_grounds, lt-ltb l.variable (length domains) present, le-ltb l.value (get_or domains l.variable 0) h)

      pub inside : l.value < get_or domains l.variable 0 → first_given (in_turn (literal_grounds domains) ls) ≡ first_given (in_turn (literal_grounds domains) rest)
      unfolding first_given literal_grounds
      inside h = rw (e, literal_grounds, lt-ltb l.variable (length domains) present, lt-ltb l.value (get_or domains l.variable 0) h)

  pub no_literal : ls ≡ [] → first_given (in_turn (literal_grounds domains) ls) ≡ none
  unfolding first_given
  no_literal e = rw e

-- ---- the author's grounds

module _ (t : Tables) where
  -- the first
  abbrev first : Option ℕ
  first = first_given (table_grounds edition1 t)

  module _ {f : Bool} (e : f ≡ fields_fit t) where
    pub fields_wrong : not f ≡ true → some 17 ≡ first
    unfolding first_given table_grounds
    fields_wrong p = rw (table_grounds, ← e, p)

    module _ (p : not f ≡ false) where
      pub decisions_wrong : not (decisions_allowed edition1 t.decisions) ≡ true → some 7 ≡ first
      unfolding first_given table_grounds decisions_allowed edition1
      decisions_wrong q = rw (table_grounds, ← e, p, q)

      module _ (q : not (decisions_allowed edition1 t.decisions) ≡ false) where
        pub states_wrong : not (leb t.states 32) ≡ true → some 8 ≡ first
        unfolding first_given table_grounds decisions_allowed edition1
        states_wrong r = rw (table_grounds, ← e, p, q, r)

        module _ (r : not (leb t.states 32) ≡ false) where
          pub clauses_wrong : 512 < t.clauses → some 9 ≡ first
          unfolding first_given table_grounds decisions_allowed edition1
          clauses_wrong h = rw (table_grounds, ← e, p, q, r, lt-leb t.clauses 512 h)

          pub literals-left : t.clauses ≤ 512 → first_given (in_turn (literal_grounds t.sizes) (literals t.literals)) ≡ first
          unfolding first_given table_grounds decisions_allowed edition1
          literals-left h = rw (table_grounds, ← e, p, q, r, le-leb t.clauses 512 h)

-- ---- the lengths

module _ (t : Tables) where
  module _ {r : Bool} (e : r ≡ lengths_agree t) where
    pub lengths_wrong : not r ≡ true → some 16 ≡ first_given (length_grounds t)
    unfolding first_given length_grounds
    lengths_wrong p = rw (length_grounds, ← e, p)

    pub lengths-right : not r ≡ false → none ≡ first_given (length_grounds t)
    unfolding first_given length_grounds
    lengths-right p = rw (length_grounds, ← e, p)

-- One step along the literals of a clause, and along the clauses. Assumes nothing.
use mathlib.Core.Path.{◌≡◌, refl, sym, ap, ◌∙◌}
use mathlib.Core.Bool.{Bool, true, false, ◌&&◌, ◌||◌}
use mathlib.Core.List.{List, [], ◌∷◌, map}
use native.Mathlib.Omega.{arith}
use Rattle.std.specs.Simd.{first_chunks}
use Rattle.clauses.proofs.Chunks.{triple-room, triple-byte, triples-end}
use Prim.Native.Nat.{ℕ, ◌+◌, ◌*◌, ◌/◌, ◌%◌, ◌<◌, ◌≤◌}
use lib.Dec.{eqb}
use lib.ListN.{length, get_or, take, drop}
use Rattle.model.specs.Lists.{All}
use Rattle.model.specs.Sheet.{Literal}
use Rattle.model.specs.Assignment.{Assignment}
use Rattle.model.specs.Consistency.{holds_at, literal_fails, clause_false, any_false}
use Rattle.model.specs.Tables.{literals, clauses}
use Rattle.theory.specs.Search.{any_at, mentions, satisfied_at}
use Rattle.theory.proofs.Search.{any_cons}
use Rattle.theory.proofs.TableClauses.{literals-step, literals_end, Along, along-opened, along-end}
use Rattle.clauses.specs.Bytes.{given, fails_at}
use Rattle.clauses.specs.Sets.{literal_rows, clause_rows}
use Rattle.clauses.proofs.Bytes.{given-at}

module _ (triples : List (List ℕ)) (l : List ℕ) (are : triples ≡ first_chunks 3 (length l / 3) l) (k : ℕ) where
  -- the triple k is the next literal
  abbrev at_byte : ℕ → ℕ
  at_byte j = get_or (get_or triples k []) j 0

  abbrev next : Literal
  next = record { variable = at_byte 0; sign = at_byte 1; value = at_byte 2 }

  module _ (h : k < length triples) where
    next-literal : literals (drop (3 * k) l) ≡ next ∷ literals (drop (3 * (k + 1)) l)
    next-literal =
        let e : 3 * (k + 1) ≡ 3 * k + 3 = omega arith in
        let z : 3 * k + 0 ≡ 3 * k = omega arith in
        rw (e, triple-byte triples l are k h 0 (omega arith), triple-byte triples l are k h 1 (omega arith), triple-byte triples l are k h 2 (omega arith), z)
        (literals-step l (3 * k) (triple-room triples l are k h))

    -- a bound of the variables is one of the next literal's and of those after it
    pub below_step : (n : ℕ) → All (λ l. l.variable < n) (literals (drop (3 * k) l)) → (at_byte 0 < n) × All (λ l. l.variable < n) (literals (drop (3 * (k + 1)) l))
    below_step n b = rw next-literal at b

    -- the clause is false if the next literal fails and those after it do
    pub false-step : (vals : List ℕ) (r : Bool) → at_byte 0 < length vals → r ≡ fails_at (given (get_or vals (at_byte 0) 0)) (at_byte 1) (at_byte 2)
        → clause_false (map given vals) (literals (drop (3 * k) l)) ≡ elim r [ true ↦ clause_false (map given vals) (literals (drop (3 * (k + 1)) l)) | false ↦ false ]
    unfolding clause_false literal_fails fails_at
    false-step vals r b e =
        let q : literal_fails (map given vals) next ≡ r = rw (literal_fails, given-at vals (at_byte 0) b) (sym e) in
        ap (clause_false (map given vals)) next-literal
        ∙ ap (λ (t : Bool). elim t [ true ↦ clause_false (map given vals) (literals (drop (3 * (k + 1)) l)) | false ↦ false ]) q

    -- the clause's rows are those of the next literal and of those after it
    pub rows_step : (r : ℕ) → clause_rows (literals (drop (3 * k) l)) r ≡ (literal_rows (at_byte 0) (at_byte 1) (at_byte 2) r || clause_rows (literals (drop (3 * (k + 1)) l)) r)
    unfolding clause_rows satisfied_at any_at literal_rows
    rows_step r = rw next-literal (any_cons (λ l. eqb l.variable (r / 16) && holds_at (r % 16) l.sign l.value) next (literals (drop (3 * (k + 1)) l)))

    pub mentions-step : (v : ℕ) → mentions v (literals (drop (3 * k) l)) ≡ (eqb (at_byte 0) v || mentions v (literals (drop (3 * (k + 1)) l)))
    unfolding mentions any_at
    mentions-step v =
        rw next-literal
        (any_cons (λ l. eqb l.variable v && true) next (literals (drop (3 * (k + 1)) l)) ∙ ap (λ (b : Bool). b || mentions v (literals (drop (3 * (k + 1)) l))) (on (eqb (at_byte 0) v)))
      where
        on : (b : Bool) → (b && true) ≡ b
        on true = refl
        on false = refl

  -- behind the last literal
  module _ (h : length triples ≤ k) where
    none-left : literals (drop (3 * k) l) ≡ []
    none-left = literals_end l (3 * k) (triples-end triples l are k h)

    pub false-end : (a : Assignment) → clause_false a (literals (drop (3 * k) l)) ≡ true
    unfolding clause_false
    false-end a = ap (clause_false a) none-left

    pub rows_none : (r : ℕ) → clause_rows (literals (drop (3 * k) l)) r ≡ false
    unfolding clause_rows satisfied_at any_at
    rows_none r = ap (λ (ls : List Literal). clause_rows ls r) none-left

    pub mentions-none : (v : ℕ) → mentions v (literals (drop (3 * k) l)) ≡ false
    unfolding mentions any_at
    mentions-none v = ap (mentions v) none-left

-- some clause is false if the next one is, or one of those after it
module _ (a : Assignment) (n : ℕ) (counts lits : List ℕ) (i from : ℕ) (along : Along n counts lits i from) where
  pub any_step : i < length counts → (r : Bool) → r ≡ clause_false a (literals (take (3 * get_or counts i 0) (drop from lits)))
      → any_false a (drop i (clauses counts lits)) ≡ elim r [ true ↦ true | false ↦ any_false a (drop (i + 1) (clauses counts lits)) ]
  unfolding any_false
  any_step lt r e =
      ap (any_false a) (along-opened n counts lits i from along lt)
      ∙ ap (λ (t : Bool). elim t [ true ↦ true | false ↦ any_false a (drop (i + 1) (clauses counts lits)) ]) (sym e)

  pub any_end : length counts ≤ i → any_false a (drop i (clauses counts lits)) ≡ false
  unfolding any_false
  any_end h = ap (any_false a) (along-end n counts lits i from along h)

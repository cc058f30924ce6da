-- From the words of a row to the clauses in its set. Assumes nothing.
use mathlib.Core.Path.{◌≡◌, refl, sym, ap, ap₂, ◌∙◌}
use mathlib.Core.Bool.{Bool, true, not, ◌&&◌, ◌||◌}
use mathlib.Core.List.{List}
use Prim.Native.Nat.{ℕ, ◌+◌, ◌*◌, ◌/◌, ◌%◌, ◌^◌, ◌<◌, ◌≤◌}
use native.Mathlib.Omega.{arith}
use native.Mathlib.Decide.{ℕ_discrete, dec_lt}
use borrow.Author.Count.{below_more}
use borrow.Author.Tests.{eqb-true}
use lib.Bits.{bit_and, bit_or, bit_xor}
use lib.Dec.{eqb}
use lib.ListN.{length, get_or, set, length-set}
use lib.Seq.{get_or-set_same, get_or-set_other}
use Rattle.clauses.specs.Sets.{bit, in_set, Joined, Covers, Less}
use Rattle.clauses.proofs.Bits.{bit_or_lem, bit-less, and_within, within_and, none-lacks, lacks-none}

-- a set in row 0
in_first : (held : List ℕ) (c : ℕ) → in_set held 0 c ≡ bit (get_or held (c / 64) 0) (c % 64)
unfolding in_set
in_first held c = let e : 0 * 8 + c / 64 ≡ c / 64 = omega arith in rw e

-- the clause that the bit k of the word j stands for
at-word : (table : List ℕ) (row j k : ℕ) → k < 64 → in_set table row (j * 64 + k) ≡ bit (get_or table (row * 8 + j) 0) k
unfolding in_set
at-word table row j k h =
    let d : (j * 64 + k) / 64 ≡ j = omega arith in
    let m : (j * 64 + k) % 64 ≡ k = omega arith in
    rw (d, m)

-- ---- a set joined with a row, word by word

module _ (table held : List ℕ) (row : ℕ) where
  -- the words before k are joined, and those from k on are as they were
  pub record Joining (out : List ℕ) (k : ℕ) : Type 0 where
    pub long : length out ≡ 8
    pub here : (j : ℕ) → j < k → get_or out j 0 ≡ bit_or (get_or held j 0) (get_or table (row * 8 + j) 0)
    pub rest : (j : ℕ) → k ≤ j → get_or out j 0 ≡ get_or held j 0

  pub joining_first : length held ≡ 8 → Joining held 0
  joining_first h = record { long = h; here = λ j l. absurd (omega arith); rest = λ j l. refl }

  pub joining_step : (out : List ℕ) (k : ℕ) → k < 8 → Joining out k → Joining (set out k (bit_or (get_or out k 0) (get_or table (row * 8 + k) 0))) (k + 1)
  joining_step out k h d = record {
    long = length-set out k word ∙ d.long;
    here = below_more (λ (j : ℕ). get_or (set out k word) j 0 ≡ bit_or (get_or held j 0) (get_or table (row * 8 + j) 0)) k
        (λ j l. get_or-set_other out k j word 0 (λ e. omega arith) ∙ d.here j l)
        (get_or-set_same out k word 0 (omega (arith, d.long)) ∙ ap (λ (w : ℕ). bit_or w (get_or table (row * 8 + k) 0)) (d.rest k (omega arith)));
    rest = λ j l. get_or-set_other out k j word 0 (λ e. omega arith) ∙ d.rest j (omega arith);
  }
    where
      word : ℕ
      word = bit_or (get_or out k 0) (get_or table (row * 8 + k) 0)

  -- so the sets are joined
  pub joining_end : (out : List ℕ) → Joining out 8 → Joined held table row true out
  unfolding in_set
  joining_end out d = record {
    has = λ c h. in_first out c ∙ ap (λ (w : ℕ). bit w (c % 64)) (d.here (c / 64) (omega arith)) ∙ bit_or_lem (get_or held (c / 64) 0) (get_or table (row * 8 + c / 64) 0) (c % 64)
        ∙ ap (λ (b : Bool). b || in_set table row c) (sym (in_first held c));
  }

-- ---- a row within a set

module _ (table held : List ℕ) (row : ℕ) where
  -- the word j of the row has no bit that the set has not
  abbrev pub Inside : ℕ → Type 0
  Inside j = bit_and (get_or table (row * 8 + j) 0) (get_or held j 0) ≡ get_or table (row * 8 + j) 0

  -- so each clause of the row is in the set
  pub inside-all : ((j : ℕ) → j < 8 → Inside j) → (c : ℕ) → c < 512 → in_set table row c ≡ true → in_set held 0 c ≡ true
  unfolding in_set
  inside-all f c h i = in_first held c ∙ within_and (get_or table (row * 8 + c / 64) 0) (get_or held (c / 64) 0) (c % 64) (f (c / 64) (omega arith)) i

  -- and the other way round
  pub all-inside : ((c : ℕ) → c < 512 → in_set table row c ≡ true → in_set held 0 c ≡ true) → (j : ℕ) → j < 8 → get_or table (row * 8 + j) 0 < 2 ^ 64 → Inside j
  all-inside f j h b =
      and_within 64 (get_or table (row * 8 + j) 0) (get_or held j 0) b
      (λ k l i. let e : 0 * 8 + j ≡ j = omega arith in
      rw e at (sym (at-word held 0 j k l) ∙ f (j * 64 + k) (omega arith) (at-word table row j k l ∙ i)))

  -- so far nothing lacks, exactly if no word before k has a bit that the set has not
  pub record Lacking (lacks k : ℕ) : Type 0 where
    pub none : lacks ≡ 0 → (j : ℕ) → j < k → Inside j
    pub only : ((j : ℕ) → j < k → get_or table (row * 8 + j) 0 < 2 ^ 64 → Inside j) → lacks ≡ 0

  pub lacking_first : Lacking 0 0
  lacking_first = record { none = λ e j h. absurd (omega arith); only = λ f. refl }

  pub lacking_step : (lacks k : ℕ) → get_or table (row * 8 + k) 0 < 2 ^ 64 → Lacking lacks k
      → Lacking (bit_or lacks (bit_xor (get_or table (row * 8 + k) 0) (bit_and (get_or table (row * 8 + k) 0) (get_or held k 0)))) (k + 1)
  lacking_step lacks k b l = record {
    none = λ e. let z = none-lacks lacks (get_or table (row * 8 + k) 0) (get_or held k 0) e in below_more Inside k (l.none z.0) z.1;
    only = λ f. lacks-none lacks (get_or table (row * 8 + k) 0) (get_or held k 0) (l.only (λ j h. f j (omega arith))) (f k (omega arith) b);
  }

  pub lacking_end : (lacks : ℕ) → Lacking lacks 8 → Covers table row (in_set held 0) (eqb lacks 0)
  lacking_end lacks l = record {
    all = λ e. inside-all (l.none (eqb-true lacks 0 e));
    only = λ f. let z = l.only (all-inside f) in rw z;
  }

-- ---- a row within a set and another row

module _ (table held other : List ℕ) (row at' : ℕ) where
  -- by the set with the other row added
  pub covers-joined : (more : List ℕ) (r : Bool) → Joined held other at' true more → Covers table row (in_set more 0) r
      → Covers table row (λ c. in_set held 0 c || in_set other at' c) r
  covers-joined more r j d = record {
    all = λ e c h i. sym (j.has c h) ∙ d.all e c h i;
    only = λ f. d.only (λ c h i. j.has c h ∙ f c h i);
  }

  -- then the first word has no bit that the two have not
  pub first-inside : ((c : ℕ) → c < 512 → in_set table row c ≡ true → (in_set held 0 c || in_set other at' c) ≡ true) → get_or table (row * 8) 0 < 2 ^ 64
      → bit_and (get_or table (row * 8) 0) (bit_or (get_or held 0 0) (get_or other (at' * 8) 0)) ≡ get_or table (row * 8) 0
  first-inside f b =
      and_within 64 (get_or table (row * 8) 0) (bit_or (get_or held 0 0) (get_or other (at' * 8) 0)) b
      (λ k l i. bit_or_lem (get_or held 0 0) (get_or other (at' * 8) 0) k
      ∙ sym (ap₂ ◌||◌ (low held 0 k l) (low other at' k l)) ∙ f k (omega arith) (low table row k l ∙ i))
    where
      low : (xs : List ℕ) (r k : ℕ) → k < 64 → in_set xs r k ≡ bit (get_or xs (r * 8) 0) k
      low xs r k l =
          let e : 0 * 64 + k ≡ k = omega arith in
          let w : r * 8 + 0 ≡ r * 8 = omega arith in
          rw (e, w) at (at-word xs r 0 k l)

-- ---- a row less a set, stored word by word

module _ (before table held : List ℕ) (row : ℕ) where
  -- the words of the row before k are stored, and the other rows are as they were
  pub record Storing (to : List ℕ) (k : ℕ) : Type 0 where
    pub long : length to ≡ length before
    pub here : (j : ℕ) → j < k → get_or to (row * 8 + j) 0 ≡ bit_xor (get_or table (row * 8 + j) 0) (bit_and (get_or table (row * 8 + j) 0) (get_or held j 0))
    pub low : (i : ℕ) → i < row * 8 → get_or to i 0 ≡ get_or before i 0
    pub high : (i : ℕ) → row * 8 + 8 ≤ i → get_or to i 0 ≡ get_or before i 0

  pub storing_first : Storing before 0
  storing_first = record { long = refl; here = λ j h. absurd (omega arith); low = λ i h. refl; high = λ i h. refl }

  pub storing_step : (to : List ℕ) (k : ℕ) → k < 8 → row * 8 + k < length to → Storing to k
      → Storing (set to (row * 8 + k) (bit_xor (get_or table (row * 8 + k) 0) (bit_and (get_or table (row * 8 + k) 0) (get_or held k 0)))) (k + 1)
  storing_step to k small h s = record {
    long = length-set to (row * 8 + k) word ∙ s.long;
    here = below_more (λ (j : ℕ). get_or (set to (row * 8 + k) word) (row * 8 + j) 0 ≡ bit_xor (get_or table (row * 8 + j) 0) (bit_and (get_or table (row * 8 + j) 0) (get_or held j 0))) k
        (λ j l. get_or-set_other to (row * 8 + k) (row * 8 + j) word 0 (λ e. omega arith) ∙ s.here j l)
        (get_or-set_same to (row * 8 + k) word 0 h);
    low = λ i l. get_or-set_other to (row * 8 + k) i word 0 (λ e. omega arith) ∙ s.low i l;
    high = λ i l. get_or-set_other to (row * 8 + k) i word 0 (λ e. omega arith) ∙ s.high i l;
  }
    where
      word : ℕ
      word = bit_xor (get_or table (row * 8 + k) 0) (bit_and (get_or table (row * 8 + k) 0) (get_or held k 0))

  -- so the row has what the table's has and the set has not
  pub storing_end : (to : List ℕ) → Storing to 8 → Less before table row held to
  unfolding in_set
  storing_end to s = record {
    here = λ c h. ap (λ (w : ℕ). bit w (c % 64)) (s.here (c / 64) (omega arith)) ∙ bit-less (get_or table (row * 8 + c / 64) 0) (get_or held (c / 64) 0) (c % 64)
        ∙ ap (λ (b : Bool). in_set table row c && not b) (sym (in_first held c));
    rest = λ r c h n. ap (λ (w : ℕ). bit w (c % 64)) (go r c h n (dec_lt r row));
  }
    where
      go : (r c : ℕ) → c < 512 → (r ≡ row → ⊥) → Dec (r < row) → get_or to (r * 8 + c / 64) 0 ≡ get_or before (r * 8 + c / 64) 0
      go r c h n (yes p) = s.low (r * 8 + c / 64) (omega arith)
      go r c h n (no p) = s.high (r * 8 + c / 64) (more (ℕ_discrete r row))
        where
          more : Dec (r ≡ row) → row * 8 + 8 ≤ r * 8 + c / 64
          more (yes q) = absurd (n q)
          more (no q) = omega arith

-- The two tables of a plant, filled clause after clause. Assumes nothing.
use mathlib.Core.Path.{◌≡◌, refl, ◌∙◌}
use mathlib.Core.List.{List}
use Prim.Native.Nat.{ℕ, ◌+◌, ◌*◌, ◌/◌, ◌%◌, ◌<◌, ◌≤◌}
use native.Mathlib.Omega.{arith}
use lib.ListN.{length, get_or, take, drop}
use Rattle.model.specs.Tables.{literals, clauses}
use Rattle.theory.specs.Search.{any_at, mentions, satisfied_at}
use Rattle.theory.proofs.TableClauses.{clauses_length, Along, along-first, along-nth, along-next}
use Rattle.clauses.specs.Sets.{clause_rows, Entered}
use Rattle.clauses.specs.Tables.{Tables, Prepared}
use Rattle.clauses.proofs.Marks.{Upto, upto-first, upto_step, upto-end}

module _ (counts lits sat₀ uses₀ : List ℕ) where
  -- before the clause i, whose literals begin at the byte `from`: both tables have the clauses before it
  pub record Filling (sat uses : List ℕ) (from i : ℕ) : Type 0 where
    pub most : length counts ≤ 512
    pub sat_long : 6144 ≤ length sat
    pub uses_long : 384 ≤ length uses
    pub sat_same : length sat ≡ length sat₀
    pub uses_same : length uses ≡ length uses₀
    pub along : Along 48 counts lits i from
    pub sat_has : Upto clause_rows (clauses counts lits) i sat
    pub uses_has : Upto (λ ls v. mentions v ls) (clauses counts lits) i uses

  pub filling_first : Tables 48 counts lits → 6144 ≤ length sat₀ → 384 ≤ length uses₀
      → ((k : ℕ) → get_or sat₀ k 0 ≡ 0) → ((k : ℕ) → get_or uses₀ k 0 ≡ 0) → Filling sat₀ uses₀ 0 0
  filling_first t s u z y = record {
    most = t.most;
    sat_long = s;
    uses_long = u;
    sat_same = refl;
    uses_same = refl;
    along = along-first 48 counts lits t.room t.below;
    sat_has = upto-first clause_rows (clauses counts lits) sat₀ z;
    uses_has = upto-first (λ ls v. mentions v ls) (clauses counts lits) uses₀ y;
  }

  module _ (sat uses : List ℕ) (from i : ℕ) (f : Filling sat uses from i) where
    abbrev part : List ℕ
    part = take (3 * get_or counts i 0) (drop from lits)

    pub filling_next : i < length counts → (sat' uses' : List ℕ) → length sat' ≡ length sat → length uses' ≡ length uses
        → Entered (literals part) i sat uses sat' uses' → Filling sat' uses' (from + 3 * get_or counts i 0) (i + 1)
    filling_next lt sat' uses' p q m =
        let nth = along-nth 48 counts lits i from f.along lt in
        record {
          most = f.most;
          sat_long = omega (arith, f.sat_long);
          uses_long = omega (arith, f.uses_long);
          sat_same = p ∙ f.sat_same;
          uses_same = q ∙ f.uses_same;
          along = along-next 48 counts lits i from f.along lt;
          sat_has = upto_step clause_rows (clauses counts lits) i sat sat' (literals part) f.sat_has m.satisfies nth;
          uses_has = upto_step (λ ls v. mentions v ls) (clauses counts lits) i uses uses' (literals part) f.uses_has m.mentioned nth;
        }

    pub filling_end : length counts ≤ i → Prepared (clauses counts lits) sat uses
    unfolding clause_rows satisfied_at mentions any_at
    filling_end h =
        let all : length (clauses counts lits) ≤ i = omega (arith, clauses_length counts lits) in
        record {
          sat_long = f.sat_long;
          uses_long = f.uses_long;
          satisfies = λ v x a b.
              let d : (v * 16 + x) / 16 ≡ v = omega arith in
              let m : (v * 16 + x) % 16 ≡ x = omega arith in
              record { has = λ c l. rw (d, m) at ((upto-end clause_rows (clauses counts lits) i sat f.sat_has all (v * 16 + x) refl).has c l) };
          mentioned = λ v a. upto-end (λ ls v. mentions v ls) (clauses counts lits) i uses f.uses_has all v refl;
        }

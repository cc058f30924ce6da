-- The bytes after a search that notes its values in the plan. Assumes nothing.
use mathlib.Core.Path.{◌≡◌, refl, sym, ap, ap₂, ◌∙◌}
use mathlib.Core.Bool.{true, false}
use mathlib.Core.List.{List, [], ◌∷◌}
use Prim.Native.Nat.{ℕ, zero, suc, ◌+◌, ◌*◌, ◌%◌, ◌<◌, ◌≤◌}
use native.Mathlib.Omega.{arith}
use native.Mathlib.Decide.{ℕ_discrete}
use borrow.Author.Tests.{eq-eqb, ne_eqb}
use lib.Dec.{eqb}
use lib.ListN.{length, get_or, set, length-set}
use lib.Seq.{get_or-set_same, get_or-set_other}
use Rattle.clauses.specs.Numbers.{values, unassigned}
use Rattle.trials.specs.declared.Answer.{Answer}
use Rattle.trials.specs.declared.Answer.TheVariants.{Consistent}
use Rattle.trials.specs.Answers.{told}
use Rattle.plan.specs.Plans.{row_at, filled_from, afterwards}

-- an unassigned byte takes the plan's word, another stays
fill_free : (b : ℕ) (vals plan : List ℕ) (place : ℕ) → b ≡ unassigned → filled_from (b ∷ vals) plan place ≡ get_or plan place 0 % 256 ∷ filled_from vals plan (place + 4)
unfolding filled_from
fill_free b vals plan place e = rw (filled_from, eq-eqb b unassigned e)

fill_set : (b : ℕ) (vals plan : List ℕ) (place : ℕ) → (b ≡ unassigned → ⊥) → filled_from (b ∷ vals) plan place ≡ b ∷ filled_from vals plan (place + 4)
unfolding filled_from
fill_set b vals plan place d = rw (filled_from, ne_eqb b unassigned d)

-- where the plan has 16 for each unassigned one, they stay
pub filled_stays : (vals plan : List ℕ) (place : ℕ) → ((u : ℕ) → u < length vals → get_or vals u 0 ≡ unassigned → get_or plan (place + u * 4) 0 % 256 ≡ unassigned) → filled_from vals plan place ≡ vals
unfolding filled_from
filled_stays [] plan place h = refl
filled_stays (b ∷ vals) plan place h = go (ℕ_discrete b unassigned) ∙ ap (λ (l : List ℕ). b ∷ l) (filled_stays vals plan (place + 4) (λ u l e. let z : place + suc u * 4 ≡ place + 4 + u * 4 = omega arith in rw z at (h (suc u) (omega arith) e)))
  where
    go : Dec (b ≡ unassigned) → filled_from (b ∷ vals) plan place ≡ b ∷ filled_from vals plan (place + 4)
    go (yes e) = let z : place + 0 * 4 ≡ place = omega arith in fill_free b vals plan place e ∙ ap (λ (w : ℕ). w ∷ filled_from vals plan (place + 4)) (rw z at (h 0 (omega arith) e) ∙ sym e)
    go (no d) = fill_set b vals plan place d

-- and so they do where there is none
pub filled_none : (vals plan : List ℕ) (place : ℕ) → ((u : ℕ) → u < length vals → get_or vals u 0 ≡ unassigned → ⊥) → filled_from vals plan place ≡ vals
filled_none vals plan place h = filled_stays vals plan place (λ u l e. absurd (h u l e))

-- taking over one byte changes nothing
filled-one : (vals plan : List ℕ) (place v : ℕ) → v < length vals → get_or vals v 0 ≡ unassigned → filled_from (set vals v (get_or plan (place + v * 4) 0 % 256)) plan place ≡ filled_from vals plan place
unfolding filled_from
filled-one [] plan place v h e = absurd (omega arith)
filled-one (b ∷ vals) plan place zero h e =
    let z : place + 0 * 4 ≡ place = omega arith in
    ap (λ (k : ℕ). filled_from (get_or plan k 0 % 256 ∷ vals) plan place) z ∙ go (ℕ_discrete (get_or plan place 0 % 256) unassigned) ∙ sym (fill_free b vals plan place e)
  where
    go : Dec (get_or plan place 0 % 256 ≡ unassigned) → filled_from (get_or plan place 0 % 256 ∷ vals) plan place ≡ get_or plan place 0 % 256 ∷ filled_from vals plan (place + 4)
    go (yes q) = fill_free (get_or plan place 0 % 256) vals plan place q
    go (no d) = fill_set (get_or plan place 0 % 256) vals plan place d
filled-one (b ∷ vals) plan place (suc v) h e =
    let z : place + suc v * 4 ≡ place + 4 + v * 4 = omega arith in
    ap (λ (k : ℕ). filled_from (b ∷ set vals v (get_or plan k 0 % 256)) plan place) z
    ∙ ap (λ (l : List ℕ). elim (eqb b unassigned) [ true ↦ get_or plan place 0 % 256 | false ↦ b ] ∷ l) (filled-one vals plan (place + 4) v (omega arith) e)

-- a word before the place does not matter
filled-before : (vals plan : List ℕ) (place k x : ℕ) → k < place → filled_from vals (set plan k x) place ≡ filled_from vals plan place
unfolding filled_from
filled-before [] plan place k x h = refl
filled-before (b ∷ vals) plan place k x h = ap₂ ◌∷◌
    (ap (λ (w : ℕ). elim (eqb b unassigned) [ true ↦ w % 256 | false ↦ b ]) (get_or-set_other plan k place x 0 (λ e. omega arith)))
    (filled-before vals plan (place + 4) k x (omega arith))

-- a value given to an unassigned variable, or noted for it in the plan
pub filled-set : (vals plan : List ℕ) (place v x : ℕ) → v < length vals → get_or vals v 0 ≡ unassigned → x < values → place + v * 4 < length plan
    → filled_from (set vals v x) plan place ≡ filled_from vals (set plan (place + v * 4) x) place
unfolding filled_from
filled-set [] plan place v x h e l r = absurd (omega arith)
filled-set (b ∷ vals) plan place zero x h e l r =
    let z : place + 0 * 4 ≡ place = omega arith in
    let m : x % 256 ≡ x = omega arith in
    let noted : filled_from (b ∷ vals) (set plan place x) place ≡ x ∷ filled_from vals plan (place + 4)
    = fill_free b vals (set plan place x) place e
    ∙ ap₂ ◌∷◌ (ap (λ (w : ℕ). w % 256) (get_or-set_same plan place x 0 (omega arith)) ∙ m) (filled-before vals plan (place + 4) place x (omega arith)) in
    fill_set x vals plan place (λ q. omega arith) ∙ sym noted ∙ ap (λ (k : ℕ). filled_from (b ∷ vals) (set plan k x) place) (sym z)
filled-set (b ∷ vals) plan place (suc v) x h e l r =
    let z : place + suc v * 4 ≡ place + 4 + v * 4 = omega arith in
    ap₂ ◌∷◌ (ap (λ (w : ℕ). elim (eqb b unassigned) [ true ↦ w % 256 | false ↦ b ]) (sym (get_or-set_other plan (place + 4 + v * 4) place x 0 (λ q. omega arith))))
    (filled-set vals plan (place + 4) v x (omega arith) e l (omega arith))
    ∙ ap (λ (k : ℕ). filled_from (b ∷ vals) (set plan k x) place) (sym z)

-- ---- taking over all of them

-- the bytes before v are taken over
pub record Filling (vals₀ plan vals : List ℕ) (v : ℕ) : Type 0 where
  pub long : length vals ≡ length vals₀
  pub same : filled_from vals plan 0 ≡ filled_from vals₀ plan 0
  pub done : (u : ℕ) → u < v → get_or vals u 0 ≡ unassigned → get_or plan (row_at u) 0 % 256 ≡ unassigned

module _ (vals₀ plan : List ℕ) where
  pub filling_first : Filling vals₀ plan vals₀ 0
  filling_first = record { long = refl; same = refl; done = λ u h. absurd (omega arith) }

  module _ (vals : List ℕ) (v : ℕ) (f : Filling vals₀ plan vals v) where
    pub filling_end : length vals ≤ v → vals ≡ filled_from vals₀ plan 0
    filling_end h = sym (filled_stays vals plan 0 (λ u l e. let z : 0 + u * 4 ≡ u * 4 = omega arith in rw z (f.done u (omega arith) e))) ∙ f.same

    -- the byte at v had a value
    pub filling_past : (get_or vals v 0 ≡ unassigned → ⊥) → Filling vals₀ plan vals (v + 1)
    filling_past d = record { long = f.long; same = f.same; done = λ u h. go u h (ℕ_discrete u v) }
      where
        go : (u : ℕ) → u < v + 1 → Dec (u ≡ v) → get_or vals u 0 ≡ unassigned → get_or plan (row_at u) 0 % 256 ≡ unassigned
        go u h (yes q) e = absurd (d (rw q at e))
        go u h (no q) e = f.done u (omega arith) e

    -- or it had none, and takes what the plan notes
    pub filling_free : v < length vals → get_or vals v 0 ≡ unassigned → Filling vals₀ plan (set vals v (get_or plan (row_at v) 0 % 256)) (v + 1)
    filling_free l e = record {
      long = length-set vals v (get_or plan (row_at v) 0 % 256) ∙ f.long;
      same = let z : 0 + v * 4 ≡ v * 4 = omega arith in rw z at (filled-one vals plan 0 v l e) ∙ f.same;
      done = λ u h. go u h (ℕ_discrete u v);
    }
      where
        go : (u : ℕ) → u < v + 1 → Dec (u ≡ v) → get_or (set vals v (get_or plan (row_at v) 0 % 256)) u 0 ≡ unassigned → get_or plan (row_at u) 0 % 256 ≡ unassigned
        go u h (yes q) e = rw q (sym (get_or-set_same vals v (get_or plan (row_at v) 0 % 256) 0 l) ∙ rw q at e)
        go u h (no q) e = f.done u (omega arith) (sym (get_or-set_other vals v u (get_or plan (row_at v) 0 % 256) 0 q) ∙ e)

-- ---- after an answer

-- the trials that an answer tells do not matter
pub told-afterwards : (used left : ℕ) (vals plan : List ℕ) (r : Answer) → afterwards vals plan (told used left r) ≡ afterwards vals plan r
unfolding told afterwards
told-afterwards used left vals plan (Answer.Consistent t) = refl
told-afterwards used left vals plan (Answer.Inconsistent t) = refl
told-afterwards used left vals plan (Answer.Spent t) = refl

-- what becomes of the bytes
module _ (vals plan : List ℕ) where
  pub after-consistent : (t : ℕ) (r : Answer) → r ≡ Consistent t → afterwards vals plan r ≡ filled_from vals plan 0
  unfolding afterwards
  after-consistent t r e = rw e

  pub after-none : (r : Answer) → ((t : ℕ) → r ≡ Consistent t → ⊥) → afterwards vals plan r ≡ vals
  unfolding afterwards
  after-none (Answer.Consistent t) d = absurd (d t refl)
  after-none (Answer.Inconsistent t) d = refl
  after-none (Answer.Spent t) d = refl

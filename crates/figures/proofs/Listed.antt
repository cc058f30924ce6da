-- The figures of a plant's states by its table: what is listed beside codes, and that edition 2's are products of weights. Assumes nothing.
use Rattle.std.proofs.Common.{◌≡◌, ℕ, zero, suc, ◌+◌, ◌*◌, ◌<◌, ◌≤◌, Bool, true, List, [], ◌∷◌, map, length, get_or, take, drop, sym, refl, ap, ◌∙◌, ap₂, arith, get_or-drop, get_or-take}
use lib.ListN.{length-map, get_or-map, get_or-append}
use Rattle.model.specs.Lists.{All}
use Rattle.model.specs.Digits.{digits}
use Rattle.model.specs.Sheet.{Plant, edition_of, decision_sizes}
use Rattle.model.specs.Assignment.{Fits, code}
use Rattle.model.specs.Order.{figure_of, order_of}
use Rattle.theory.specs.Plant.{Accepted}
use Rattle.theory.specs.Words.{sixteens, HasRows}
use Rattle.theory.proofs.Lists.{all-at, all_map, all_image}
use Rattle.theory.proofs.Digits.{number_digit}
use Rattle.theory.proofs.Agreement.{fits-at, fits_length}
use Rattle.theory.proofs.Bounds.{weight-at}
use Rattle.theory.proofs.Figures.{fits_below, figure_of_code}
use Rattle.theory.proofs.Value.{edition-weighed, edition-few}
use Rattle.figures.specs.Weights.{ReadsWeights}

-- within its rows a table's entry is its row's
pub entry-is : (rows : List (List ℕ)) (t : List ℕ) (v x : ℕ) → HasRows rows t → v < length rows → x < 16 → x < length (get_or rows v []) → get_or t (16 * v + x) 0 ≡ get_or (get_or rows v []) x 0
entry-is [] t v x r l s h = absurd (omega arith)
entry-is (row ∷ rows) t zero x r l s h =
    let e : 16 * 0 + x ≡ x = omega arith in
    rw e (sym (get_or-take 16 t x 0 s) ∙ ap (λ (c : List ℕ). get_or c x 0) r.0.1 ∙ get_or-append row r.0.0 0 x h)
entry-is (row ∷ rows) t (suc v) x r l s h =
    let e : 16 + (16 * v + x) ≡ 16 * suc v + x = omega arith in
    rw e at (sym (get_or-drop 16 t (16 * v + x) 0) ∙ entry-is rows (drop 16 t) v x r.1 (omega arith) s h)

-- a full assignment has a value for each variable
full_length : (p : Plant) (f : List ℕ) → Fits (decision_sizes p) f → length f ≡ length p.costs
full_length p f h = fits_length (decision_sizes p) f h ∙ length-map p.costs length

-- on every accepted plant of either edition:
module _ (w : Bool) (p : Plant) (a : Accepted (edition_of w) p) where
  small : All (λ s. s ≤ 16) (decision_sizes p)
  small = all_image length _ p.costs (all_map (λ row z. z.1) p.costs a.decision_sizes_lem)

  -- a value that fits is in its row
  within : (f : List ℕ) (v : ℕ) → Fits (decision_sizes p) f → v < length p.costs → get_or f v 0 < length (get_or p.costs v [])
  within f v h l = rw (get_or-map length p.costs v []) at (fits-at (decision_sizes p) f v h (rw (length-map p.costs length) l))

-- ---- by a table that has its rows

module _ (w : Bool) (p : Plant) (t : List ℕ) (a : Accepted (edition_of w) p) (r : HasRows p.costs t) where
  -- the figures of codes are those of the states that they code
  pub listed-figures : (fs : List (List ℕ)) → All (Fits (decision_sizes p)) fs
      → map (λ c. figure_of w (sixteens (length p.costs) t) (digits 16 16 c)) (map code fs) ≡ map (order_of (edition_of w) p).figure fs
  unfolding order_of
  listed-figures [] z = refl
  listed-figures (f ∷ fs) z = ap₂ ◌∷◌ (rw (edition-weighed w) (figure_of_code w p.costs t f (edition-few w p a) (small w p a) r z.0)) (listed-figures fs z.1)

  -- the code of a state reads weights
  pub reads-weights : w ≡ true → (f : List ℕ) → Fits (decision_sizes p) f → ReadsWeights (length p.costs) t (code f)
  reads-weights e f h v l =
      let few = edition-few w p a in
      let below = fits_below 16 (decision_sizes p) f (small w p a) h in
      let long = full_length p f h in
      let digit = number_digit 16 16 v f (omega arith) below (omega arith) in
      let x : get_or f v 0 < 16 = all-at 0 (λ d. d < 16) f below v (omega arith) in
      rw (digit, entry-is p.costs t v (get_or f v 0) r l x (within w p a f v h l)) (weight-at w p a e v (get_or f v 0) l (within w p a f v h l)).1

  -- and so does each of a list's first codes
  pub listed-weights : w ≡ true → (fs : List (List ℕ)) → All (Fits (decision_sizes p)) fs → (codes : List ℕ) → take (length fs) codes ≡ map code fs
      → (i : ℕ) → i < length fs → ReadsWeights (length p.costs) t (get_or codes i 0)
  listed-weights e fs z codes is i l =
      let all = all_image code (ReadsWeights (length p.costs) t) fs (all_map (reads-weights e) fs z) in
      rw (← is, get_or-take (length fs) codes i 0 l) at (all-at 0 (ReadsWeights (length p.costs) t) (map code fs) all i (rw (length-map fs code) l))

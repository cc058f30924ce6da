-- Results that demand 3 rules out: an invented tally, a state left out, one listed twice, 'all' with a state missing, 'enough' with one too few, 'spent' with trials left, 'full' with room left, a wrong cost, zeros shown for a state, a byte beyond D + S. Assumes nothing.
use mathlib.Core.Path.{◌≡◌, refl, sym, ◌∙◌, ap}
use mathlib.Core.Logic.{inl, inr}
use mathlib.Core.Bool.{Bool, true, false, false≢true}
use mathlib.Core.List.{List, [], ◌∷◌, ◌++◌}
use Prim.Native.Nat.{ℕ, ◌+◌, ◌-◌, ◌/◌, ◌≤◌, ◌<◌}
use native.Mathlib.Omega.{arith}
use lib.ListN.{length, get_or, replicate, get_or-eq_default}
use Rattle.model.specs.Lists.{Begins}
use Rattle.model.specs.Sheet.{Plant, edition1, decision_sizes, sizes}
use Rattle.model.specs.Assignment.{Fits}
use Rattle.model.specs.Consistency.{holds_at, literal_holds, clause_holds, all_hold}
use Rattle.model.specs.Order.{Order, Entry, order_of, product}
use Rattle.model.specs.Listing.{Ending, enough, all, most_tested}
use Rattle.model.specs.Calls.{Buffers, Counts, state_bytes, run_list, state_values}
use Rattle.model.proofs.Edges.{small_plant, small-whole}
use Rattle.theory.specs.Run.{strikes}
use Rattle.theory.specs.Demand3.{Demand3}
use Rattle.theory.proofs.Agreement.{fits_length}
use Rattle.theory.proofs.Digits.{zeros-behind}

-- the limit strikes at most once
strikes-most : (b : Bool) → strikes b ≤ 1
strikes-most true = omega arith
strikes-most false = omega arith

module _ {p : Plant} {o : Order} {k : ℕ} {before : Buffers} {held limit : ℕ} {e : Ending} {c : Counts} {after : Buffers} {struck : Bool}
    (d : Demand3 p o k before held limit e c after struck) where
  -- a tally two too high
  pub no_invented_tally : c.tested ≡ c.listed + c.learned + c.unkept + 2 → ⊥
  no_invented_tally h = omega (arith, d.sum, strikes-most struck)

  -- one too high where the limit did not strike inside a reduction
  pub no_tally_too_high : struck ≡ false → c.tested ≡ c.listed + c.learned + c.unkept + 1 → ⊥
  no_tally_too_high f h = let z : strikes struck ≡ 0 = ap strikes f in omega (arith, d.sum)

  -- 'enough' with one too few
  pub no_enough-short : e ≡ enough → c.listed + 1 ≡ k → ⊥
  no_enough-short f h = omega (arith, d.enough-k f)

  -- 'spent' with trials left and tested below its greatest
  pub no_spent_early : e ≡ Ending.spent → c.trials < limit → c.tested < most_tested → ⊥
  no_spent_early f h m = elim (d.spent_why f) [ inl t ↦ omega (arith, t) | inr t ↦ omega (arith, t) ]

  -- so none with no work done, where the limit allows a trial
  pub no_spent_idle : e ≡ Ending.spent → 0 < limit → c.trials ≡ 0 → c.tested ≡ 0 → ⊥
  no_spent_idle f h t m = no_spent_early f (omega arith) (omega arith)

  -- 'full' where the queue's entries and the states listed are together as many as the product of the sizes
  pub no_full_early : e ≡ Ending.full → product (decision_sizes p) ≤ length before.queue / 2 + c.listed → ⊥
  no_full_early f h = omega (arith, d.full-small f)

  -- a byte beyond D + S
  pub no_byte_beyond : (i v : ℕ) → i < c.listed → length (sizes p) ≤ v → 0 < get_or (state_values i after) v 0 → ⊥
  no_byte_beyond i v h l b =
      let s = (d.shown i h).3 in
      let none-there : get_or s.values v 0 ≡ 0 = get_or-eq_default s.values 0 {n = v} (omega (arith, fits_length (sizes p) s.values s.satisfies.fits)) in
      omega (arith, ap (λ (bytes : List ℕ). get_or bytes v 0) s.are ∙ zeros-behind s.values (state_bytes - length (sizes p)) v ∙ none-there)

-- the small plant has four full assignments
small_product : product (decision_sizes small_plant) ≡ 4
unfolding small_plant
small_product = refl

-- and three entries
abbrev first : Entry
first = record { code = 0x0100000000000000; figure = 3 }

abbrev second : Entry
second = record { code = 0x1000000000000000; figure = 3 }

abbrev third : Entry
third = record { code = 0x1100000000000000; figure = 6 }

module _ {k : ℕ} {before : Buffers} {held limit : ℕ} {e : Ending} {c : Counts} {after : Buffers} {struck : Bool}
    (d : Demand3 small_plant (order_of edition1 small_plant) k before held limit e c after struck) where
  -- its lists begin these three
  begins-three : {xs : List Entry} → run_list c.listed after ≡ xs → Begins xs (first ∷ second ∷ third ∷ [])
  begins-three {xs} h = rw (h, small-whole) at d.begins

  -- the second state left out
  pub no_state-left-out : run_list c.listed after ≡ first ∷ third ∷ [] → ⊥
  no_state-left-out h = let z : ◌≡◌ {A = ℕ} 0x1000000000000000 0x1100000000000000 = ap (λ (l : List Entry). (get_or l 1 first).code) (begins-three h).1 in omega arith

  -- the first one listed twice
  pub no_state_twice : run_list c.listed after ≡ first ∷ first ∷ [] → ⊥
  no_state_twice h = let z : ◌≡◌ {A = ℕ} 0x1000000000000000 0x0100000000000000 = ap (λ (l : List Entry). (get_or l 1 first).code) (begins-three h).1 in omega arith

  -- the first two in the order of arrival
  pub no_ties-turned : run_list c.listed after ≡ second ∷ first ∷ [] → ⊥
  no_ties-turned h = let z : ◌≡◌ {A = ℕ} 0x1000000000000000 0x0100000000000000 = ap (λ (l : List Entry). (get_or l 1 first).code) (begins-three h).1 in omega arith

  -- a wrong cost
  pub no_wrong_cost : run_list c.listed after ≡ record { code = 0x0100000000000000; figure = 4 } ∷ [] → ⊥
  no_wrong_cost h = let z : ◌≡◌ {A = ℕ} 3 4 = ap (λ (l : List Entry). (get_or l 0 first).figure) (begins-three h).1 in omega arith

  -- zeros shown for a state
  pub no_zeros-shown : (i : ℕ) → i < c.listed → state_values i after ≡ replicate 48 0 → ⊥
  unfolding small_plant all_hold clause_holds literal_holds holds_at
  no_zeros-shown i h e = let s = (d.shown i h).3 in go s.values s.satisfies.fits s.satisfies.holds (sym e ∙ s.are)
    where
      go : (f : List ℕ) → Fits (sizes small_plant) f → all_hold f small_plant.clauses ≡ true → replicate 48 0 ≡ f ++ replicate 45 0 → ⊥
      go [] fits holds z = fits
      go (x ∷ []) fits holds z = fits.1
      go (x ∷ y ∷ []) fits holds z = fits.1.1
      go (x ∷ y ∷ w ∷ v ∷ f) fits holds z = fits.1.1.1
      go (x ∷ y ∷ w ∷ []) fits holds z =
          let at : (v : ℕ) → get_or {A = ℕ} (replicate 48 0) v 0 ≡ get_or (x ∷ y ∷ w ∷ replicate 45 0) v 0 = λ v. ap (λ (bytes : List ℕ). get_or bytes v 0) z in
          let first : x ≡ 0 = sym (at 0) in
          let second : y ≡ 0 = sym (at 1) in
          let third : w ≡ 0 = sym (at 2) in
          false≢true (rw (first, second, third) at holds)

  -- 'full' with a queue of 4,096 entries
  pub no_full-roomy : e ≡ Ending.full → length before.queue ≡ 8192 → ⊥
  no_full-roomy f h = no_full_early d f (rw h (omega (arith, small_product)))

  -- 'full' with all three listed, whatever the queue: it has room for a node
  pub no_full-at-last : e ≡ Ending.full → c.listed ≡ 3 → ⊥
  no_full-at-last f h = no_full_early d f (omega (arith, small_product, (d.full_why f).2.fitted))

  -- 'all' with the third state missing
  pub no_all-short : e ≡ all → run_list c.listed after ≡ first ∷ second ∷ [] → ⊥
  no_all-short f h =
      let b : first ∷ second ∷ [] ≡ first ∷ second ∷ third ∷ [] = sym h ∙ d.all_whole f ∙ small-whole in
      let z : ◌≡◌ {A = ℕ} 2 3 = ap length b in omega arith

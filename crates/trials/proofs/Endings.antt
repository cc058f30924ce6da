-- How the model's test ends and how the code does: from one to the other and back. Assumes nothing.
use mathlib.Core.Path.{◌≡◌}
use mathlib.Core.List.{List}
use Prim.Native.Nat.{ℕ, ◌+◌, ◌-◌, ◌≤◌}
use native.Mathlib.Omega.{arith}
use Rattle.model.specs.Consistency.{Tested, consistent, inconsistent, spent}
use Rattle.trials.specs.declared.Answer.{Answer}
use Rattle.trials.specs.declared.Answer.TheVariants.{Consistent, Inconsistent, Spent}
use Rattle.trials.specs.Answers.{answer_of, leaves, Ended, told, trials_in}

module _ (e : Tested) (before after : List ℕ) (t : ℕ) where
  pub as_consistent : e ≡ consistent after t → Ended e before after (Consistent t)
  unfolding answer_of leaves
  as_consistent q = record { answer = rw q; left = rw q }

  pub as_inconsistent : e ≡ inconsistent t → after ≡ before → Ended e before after (Inconsistent t)
  unfolding answer_of leaves
  as_inconsistent q l = record { answer = rw q; left = rw q l }

  pub as_spent : e ≡ spent t → after ≡ before → Ended e before after (Spent t)
  unfolding answer_of leaves
  as_spent q l = record { answer = rw q; left = rw q l }

  pub was_consistent : (r : Answer) → Ended e before after r → r ≡ Consistent t → e ≡ consistent after t
  unfolding answer_of leaves
  was_consistent r h q = go e h
    where
      go : (e : Tested) → Ended e before after r → e ≡ consistent after t
      go (consistent f u) h = cc
      go (inconsistent u) h = cc
      go (spent u) h = cc

  pub was_inconsistent : (r : Answer) → Ended e before after r → r ≡ Inconsistent t → (e ≡ inconsistent t) × (after ≡ before)
  unfolding answer_of leaves
  was_inconsistent r h q = go e h
    where
      go : (e : Tested) → Ended e before after r → (e ≡ inconsistent t) × (after ≡ before)
      go (consistent f u) h = (cc, cc)
      go (inconsistent u) h = (cc, h.left)
      go (spent u) h = (cc, cc)

  pub was_spent : (r : Answer) → Ended e before after r → r ≡ Spent t → (e ≡ spent t) × (after ≡ before)
  unfolding answer_of leaves
  was_spent r h q = go e h
    where
      go : (e : Tested) → Ended e before after r → (e ≡ spent t) × (after ≡ before)
      go (consistent f u) h = (cc, cc)
      go (inconsistent u) h = (cc, cc)
      go (spent u) h = (cc, h.left)

pub moved : (e d : Tested) (before after : List ℕ) (r : Answer) → e ≡ d → Ended d before after r → Ended e before after r
moved e d before after r q h = record { answer = rw q h.answer; left = rw q h.left }

-- ---- how it did not end

-- one that found values, or was stopped, did not fail
pub not_consistent : (t n : ℕ) (r : Answer) → r ≡ Consistent t → r ≡ Inconsistent n → ⊥
not_consistent t n r e q = let z : ◌≡◌ {A = ℕ} 0 1 = cc in omega arith

pub not_spent : (t n : ℕ) (r : Answer) → r ≡ Spent t → r ≡ Inconsistent n → ⊥
not_spent t n r e q = let z : ◌≡◌ {A = ℕ} 0 1 = cc in omega arith

-- ---- trials left

module _ (left n : ℕ) (r : Answer) where
  pub few-consistent : n ≤ left → r ≡ Consistent n → trials_in r ≤ left
  unfolding trials_in
  few-consistent h e = rw e h

  pub few-inconsistent : n ≤ left → r ≡ Inconsistent n → trials_in r ≤ left
  unfolding trials_in
  few-inconsistent h e = rw e h

  pub few-spent : n ≤ left → r ≡ Spent n → trials_in r ≤ left
  unfolding trials_in
  few-spent h e = rw e h

  -- and back
  pub found-few : trials_in r ≤ left → r ≡ Consistent n → n ≤ left
  unfolding trials_in
  found-few h e = rw e at h

  pub failed_few : trials_in r ≤ left → r ≡ Inconsistent n → n ≤ left
  unfolding trials_in
  failed_few h e = rw e at h

  pub stopped-few : trials_in r ≤ left → r ≡ Spent n → n ≤ left
  unfolding trials_in
  stopped-few h e = rw e at h

-- the answer with the trials made
module _ (used left t : ℕ) (r : Answer) where
  pub told-consistent : r ≡ Consistent t → told used left r ≡ Consistent (used + (left - t))
  unfolding told
  told-consistent e = rw e

  pub told-inconsistent : r ≡ Inconsistent t → told used left r ≡ Inconsistent (used + (left - t))
  unfolding told
  told-inconsistent e = rw e

  pub told-spent : r ≡ Spent t → told used left r ≡ Spent (used + (left - t))
  unfolding told
  told-spent e = rw e

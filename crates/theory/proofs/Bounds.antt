-- Bounds of the figures of an accepted plant: a sum of costs has twenty bits, and a product of weights one word, so that none wraps. Assumes nothing.
use mathlib.Core.Path.{◌≡◌, refl}
use mathlib.Core.Bool.{Bool, true, false, false≢true}
use mathlib.Core.List.{List, []}
use Prim.Native.Nat.{ℕ, ◌^◌, ◌≤◌, ◌<◌}
use native.Mathlib.Omega.{arith}
use native.Mathlib.Nat.{mul-le-mul_right, pow-le-pow_right}
use lib.ListN.{length, get_or}
use Rattle.model.specs.Lists.{All}
use Rattle.model.specs.Sheet.{Plant, edition1, edition2, edition_of}
use Rattle.model.specs.Order.{cost, chance}
use Rattle.theory.specs.Plant.{Accepted}
use Rattle.theory.proofs.Lists.{all_map, all-at}
use Rattle.theory.proofs.Figures.{AtMost, NoZero, others, figure-split, cost-most, chance-most, others-most}

-- ---- edition 1

module _ (p : Plant) (a : Accepted edition1 p) where
  costs-most : AtMost 65535 p.costs
  unfolding edition1
  costs-most = all_map (λ row. all_map (λ c h. omega arith) row) p.costs a.costs

  -- a cost is a sum of at most sixteen numbers of sixteen bits
  pub cost-fits : (f : List ℕ) → cost p.costs f < 2 ^ 20
  unfolding edition1
  cost-fits f = omega (arith, cost-most 65535 p.costs f costs-most, mul-le-mul_right 65535 a.decisions)

-- ---- edition 2

module _ (p : Plant) (a : Accepted edition2 p) where
  -- at most eight decision variables
  pub few-weighed : length p.costs ≤ 8
  unfolding edition2
  few-weighed = a.decisions

  pub weights-most : AtMost 255 p.costs
  unfolding edition2
  weights-most = all_map (λ row. all_map (λ c h. omega arith) row) p.costs a.costs

  pub weights-positive : NoZero p.costs
  unfolding edition2
  weights-positive = a.weights refl

  power : 255 ^ length p.costs ≤ 255 ^ 8
  power = pow-le-pow_right (omega arith) few-weighed

  -- 255 to the eighth power fits one word: no product of weights wraps
  pub chance-fits : (f : List ℕ) → chance p.costs f < 2 ^ 64
  chance-fits f = omega (arith, chance-most 255 p.costs f (omega arith) weights-most, power)

  -- and a product of all weights but one leaves room for one more
  pub others-fit : (f : List ℕ) (v : ℕ) → length f ≡ length p.costs → v < length p.costs → others true p.costs f v < 2 ^ 56
  others-fit f v long l = omega (arith, others-most 255 p.costs f v (omega arith) weights-most long l, power)

-- ---- either edition

-- the figure of all variables but one leaves room for its part
pub rest-fits : (w : Bool) (p : Plant) → Accepted (edition_of w) p → (f : List ℕ) (v : ℕ) → length f ≡ length p.costs → v < length p.costs → others w p.costs f v < 2 ^ 56
rest-fits false p a f v long l = omega (arith, figure-split false p.costs f v long l, cost-fits p a f)
rest-fits true p a f v long l = others-fit p a f v long l

-- a weight is from 1 to 255
pub weight-at : (w : Bool) (p : Plant) → Accepted (edition_of w) p → w ≡ true → (v x : ℕ) → v < length p.costs → x < length (get_or p.costs v [])
    → (1 ≤ get_or (get_or p.costs v []) x 0) × (get_or (get_or p.costs v []) x 0 < 256)
weight-at false p a e v x l h = absurd (false≢true e)
weight-at true p a e v x l h = (
  all-at 0 (λ c. 1 ≤ c) (get_or p.costs v []) (all-at [] (All (λ c. 1 ≤ c)) p.costs (weights-positive p a) v l) x h,
  omega (arith, all-at 0 (λ c. c ≤ 255) (get_or p.costs v []) (all-at [] (All (λ c. c ≤ 255)) p.costs (weights-most p a) v l) x h),
)

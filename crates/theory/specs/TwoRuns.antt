-- What the customer asked for of two cabins: whatever else differs, the lists of two runs on one sheet never contradict each other. Assumes nothing: these are definitions.
use Rattle.std.specs.Prelude.{◌≡◌, ◌⊎◌, List, ℕ, ◌≤◌, length}
use Rattle.model.specs.Lists.{Begins}
use Rattle.model.specs.Sheet.{Plant, got, Edition, read_sheet}
use Rattle.model.specs.Order.{Entry, order_of, whole_set}

-- a list of so many entries that begins the one list that the sheet of this edition alone defines
pub record ListOn (e : Edition) (sheet : List ℕ) (listed : ℕ) (entries : List Entry) : Type 0 where
  pub plant : Plant
  pub end : ℕ
  pub says : read_sheet e sheet ≡ got plant end
  pub begins : Begins entries (whole_set plant (order_of e plant))
  pub long : length entries ≡ listed

-- of two lists one begins the other: the shorter the longer; and lists of equal length are equal
pub record NoContradiction (m n : ℕ) (xs ys : List Entry) : Type 0 where
  pub one-begins : Begins xs ys ⊎ Begins ys xs
  pub shorter-begins : m ≤ n → Begins xs ys
  pub equal-same : m ≡ n → xs ≡ ys

-- The word that hands in the best values, one variable further. Assumes nothing.
use mathlib.Core.Path.{◌≡◌, ◌∙◌}
use mathlib.Core.List.{List, []}
use Prim.Native.Nat.{ℕ, ◌+◌, ◌-◌, ◌*◌, ◌%◌, ◌^◌, ◌≤◌, ◌<◌}
use native.Mathlib.Omega.{arith}
use lib.ListN.{length, get_or, take, drop, length-drop}
use lib.Seq.{get_or-take, take_all, take-take, length-take-le}
use lib.Pow.{shl_exact}
use borrow.Author.Rules.{part_to_end}
use Rattle.model.specs.Lists.{All}
use Rattle.theory.specs.Plant.{Sized}
use Rattle.theory.specs.Tables.{rows}
use Rattle.theory.specs.Value.{BestValue, BestValues}
use Rattle.theory.proofs.Lists.{all-at}
use Rattle.theory.proofs.Tables.{rows_at, rows_length}
use Rattle.theory.proofs.Value.{next-value}
use Rattle.theory.proofs.WordsSet.{nibble-place}

module _ (sizes costs : List ℕ) (d : ℕ) (known : (d ≤ 16) × (d ≤ length sizes) × (16 * d ≤ length costs) × All Sized (take d sizes)) where
  -- there are d sizes, and a row of costs for each
  length_sizes : length (take d sizes) ≡ d
  length_sizes = length-take-le d sizes known.1

  abbrev table : List (List ℕ)
  table = rows (take d sizes) costs

  length_table : length table ≡ d
  length_table = rows_length (take d sizes) costs ∙ length_sizes

  -- each size is from 1 to 16
  pub size-at : (v : ℕ) → v < d → Sized (get_or sizes v 0)
  size-at v h = rw (get_or-take d sizes v 0 h) at (all-at 0 Sized (take d sizes) known.3 v (rw length_sizes h))

  -- after the last variable the word has the values of all
  pub all-handed : {Better : ℕ → ℕ → Type 0} (v : ℕ) {word : ℕ} → v ≡ d → BestValues Better (take v table) word → BestValues Better table word
  all-handed v e h = rw (take_all v table (omega (arith, length_table))) at h

  module _ {Better : ℕ → ℕ → Type 0} (v x : ℕ) {size word : ℕ} (h : v < d) (s : size ≡ get_or sizes v 0)
      (best : BestValue Better (take size (take (length costs - 16 * v) (drop (16 * v) costs))) x) (old : BestValues Better (take v table) word) where
    -- the variable's row stands where its costs are read
    row_is : get_or table v [] ≡ take size (drop (16 * v) costs)
    row_is = rows_at (take d sizes) costs v (rw length_sizes h) ∙ rw (get_or-take d sizes v 0 h, ← s) (take-take size 16 (drop (16 * v) costs) (omega (arith, (size-at v h).1)))

    read : BestValue Better (take size (drop (16 * v) costs)) x
    read = rw (part_to_end costs (16 * v)) at best

    small : x < 16
    small =
        let room : size ≤ length (drop (16 * v) costs) = rw (length-drop (16 * v) costs) (omega (arith, (size-at v h).1, known.2)) in
        omega (arith, read.within, length-take-le size (drop (16 * v) costs) room, (size-at v h).1)

    few : v < 16
    few = omega (arith, known.0)

    placed : x * 2 ^ (60 - 4 * v) % 2 ^ 64 ≡ x * 16 ^ (15 - v)
    placed = rw (shl_exact {a = x} 4 (60 - 4 * v) 64 small (omega arith), nibble-place v few)

    -- with the variable's value at its place the word hands in one value more
    pub one_more : BestValues Better (take (v + 1) table) (word + x * 2 ^ (60 - 4 * v) % 2 ^ 64)
    one_more = rw placed (next-value table v x word (omega (arith, length_table)) few small old (rw row_is read))

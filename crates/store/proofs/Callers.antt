-- What a caller needs of a store: how it begins, and its room. Assumes nothing.
use mathlib.Core.Path.{refl, ap}
use mathlib.Core.List.{List, []}
use Prim.Native.Nat.{ℕ, ◌*◌, ◌≤◌}
use native.Mathlib.Omega.{arith}
use lib.ListN.{length, length-take}
use Rattle.model.specs.Assignment.{Assignment}
use Rattle.store.specs.Store.{words_by, wide_mask, Keeps}
use Rattle.store.proofs.Entries.{words_length}

-- every slice keeps no conflicts
pub keeps-none : (d : ℕ) (words : List ℕ) → d ≤ 16 → Keeps d words 0 []
unfolding words_by
keeps-none d words h = record { narrow = h; count = refl; each = tt; same = refl }

module _ {d : ℕ} {words : List ℕ} {m : ℕ} {conflicts : List Assignment} (k : Keeps d words m conflicts) where
  -- there is room for the entries
  pub keeps-room : 2 * m ≤ length words
  keeps-room = omega (arith, k.count, words_length wide_mask conflicts, ap length k.same, length-take (2 * m) words)

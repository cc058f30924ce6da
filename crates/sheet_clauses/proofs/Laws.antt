-- A clause's reading after its first field. Assumes nothing.
use mathlib.Core.Path.{◌≡◌}
use mathlib.Core.List.{List, []}
use Prim.Native.Nat.{ℕ}
use Rattle.model.specs.Sheet.{got, then, field, read_literal, read_clause}
use Rattle.readings.proofs.Laws.{Reading, begin}

pub clause-got : (sheet domains : List ℕ) (place n after : ℕ) → field sheet 4 place ≡ got n after → Reading (read_literal sheet domains) (read_clause sheet domains place) n 0 [] after
unfolding read_clause then
clause-got sheet domains place n after h = rw h (begin n after)

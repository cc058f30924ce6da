-- One variable's reading after its first field. Assumes nothing.
use mathlib.Core.Path.{◌≡◌}
use mathlib.Core.List.{List, []}
use Prim.Native.Nat.{ℕ, ◌+◌}
use Rattle.model.specs.Sheet.{refused, got, then, field, Edition, read_figure, read_decision, read_state}
use Rattle.readings.proofs.Laws.{Reading, begin}

module _ (e : Edition) (sheet : List ℕ) (place : ℕ) where
  pub decision_got : (n after : ℕ) → field sheet 4 place ≡ got n after → Reading (read_figure e sheet) (read_decision e sheet place) (n + 1) 0 [] after
  unfolding read_decision then
  decision_got n after h = rw h (begin (n + 1) after)

pub state-got : (sheet : List ℕ) (place n after : ℕ) → field sheet 4 place ≡ got n after → read_state sheet place ≡ got (n + 1) after
unfolding read_state then
state-got sheet place n after h = rw h

pub state-past : (sheet : List ℕ) (place k : ℕ) → field sheet 4 place ≡ refused k → read_state sheet place ≡ refused k
unfolding read_state then
state-past sheet place k h = rw h

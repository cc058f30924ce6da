-- What a store's words mean: the conflicts that they keep, and the conflict that a scan finds. Assumes nothing: these are definitions.
use Rattle.std.specs.Prelude.{◌≡◌, Bool, true, false, Option, None, Some, IfSome, unwrap_or, List, [], ◌∷◌, ℕ, ◌+◌, ◌*◌, ◌<◌, ◌≤◌, length, get_or, take}
use Rattle.std.proofs.Math.Option.{Option as Maybe, none, some}
use Rattle.model.specs.Lists.{All}
use Rattle.model.specs.Assignment.{Assignment, Under, mask_of, values_of}
use Rattle.theory.specs.Words.{Words, wide_of}
use Rattle.words.specs.declared.Pair.{Pair}
use Rattle.words.specs.declared.WidePair.{WidePair}

-- an assignment to d variables with values below 16
abbrev pub Over : ℕ → Assignment → Type 0
Over d c = (length c ≡ d) × All (Under 16) c

-- two words for each conflict in turn: its mask in a form f, and its values
unfoldable pub words_by : (Assignment → ℕ) → List Assignment → List ℕ
words_by f [] = []
words_by f (c ∷ cs) = f c ∷ values_of c ∷ words_by f cs

-- a conflict's mask widened, as a scan reads it
abbrev pub wide_mask : Assignment → ℕ
wide_mask c = wide_of (mask_of c)

-- the first m entries of the words are those of these conflicts over d variables; while a run lasts their masks are widened
pub record Keeps (d : ℕ) (words : List ℕ) (m : ℕ) (conflicts : List Assignment) : Type 0 where
  pub narrow : d ≤ 16
  pub count : length conflicts ≡ m
  pub each : All (Over d) conflicts
  pub same : take (2 * m) words ≡ words_by wide_mask conflicts

-- an answer tells the first unresolved conflict: by its two words, or that there is none
abbrev pub Tells : Option Pair → Maybe Assignment → Type 0
Tells (Some found) first = (c : Assignment) × (first ≡ some c) × Words c found.mask found.values
Tells None first = first ≡ none

-- the two words at place i
abbrev pub pair_at : List ℕ → ℕ → WidePair
pair_at words i = record { mask = get_or words (2 * i) 0; values = get_or words (2 * i + 1) 0 }

-- an answer is the first of m places where a test gives true, or none where it gives false at each
pub record FirstOf (m : ℕ) (gives : ℕ → Bool → Type 0) (found : Option ℕ) : Type 0 where
  pub before : (i : ℕ) → i < unwrap_or found m → gives i false
  pub there : IfSome found (λ i. (i < m) × gives i true)

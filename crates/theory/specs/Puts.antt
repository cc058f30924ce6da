-- What a lent buffer holds after a text was put into it, byte by byte or bit by bit. Assumes nothing: these are definitions.
use Rattle.std.specs.Prelude.{◌≡◌, List, ◌++◌, ℕ, ◌+◌, length, take, drop}
use Rattle.model.specs.Lists.{in_turn}
use Rattle.model.specs.Digits.{digits}

-- the bytes before a place as they were, the text, and the bytes after it as they were
unfoldable pub written : (place : ℕ) (text before : List ℕ) → List ℕ
written place text before = take place before ++ text ++ drop (place + length text) before

-- a text was put at a place: the whole buffer afterwards, and the place after the text
pub record Puts (place : ℕ) (text before : List ℕ) (next : ℕ) (after : List ℕ) : Type 0 where
  pub buffer : after ≡ written place text before
  pub ends : next ≡ place + length text

-- the bits of bytes, most significant first: a sheet as it is read and written
abbrev pub bits_of : List ℕ → List ℕ
bits_of bytes = in_turn (digits 2 8) bytes

-- What is lent to the search on sets of eight words. Assumes nothing: these are definitions.
use Rattle.std.specs.Prelude.{List, ℕ, ◌≤◌, length}
use Rattle.clauses.specs.Numbers.{sat_words, uses_words}
use Rattle.trials.specs.Searches.{Bytes}

-- the room that it has
pub record Room (sizes sat last vals : List ℕ) (v : ℕ) : Type 0 where
  pub bytes : Bytes sizes vals v
  pub sat_long : sat_words ≤ length sat
  pub last-long : uses_words ≤ length last

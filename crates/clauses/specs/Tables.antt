-- A plant's clauses as tables, and the tables of sets made of them. Assumes nothing: these are definitions.
use Rattle.std.specs.Prelude.{ℕ, ◌+◌, ◌*◌, ◌<◌, ◌≤◌, List, length}
use Rattle.model.specs.Lists.{All}
use Rattle.model.specs.Sheet.{Literal}
use Rattle.model.specs.Tables.{clauses, total}
use Rattle.theory.specs.Search.{mentions, satisfied_at}
use Rattle.clauses.specs.Numbers.{variables, values, most_clauses, sat_words, uses_words}
use Rattle.clauses.specs.Sets.{SetOf}

-- at most 512 clauses over n variables, with the literals that the counts say
pub record Tables (n : ℕ) (counts lits : List ℕ) : Type 0 where
  pub most : length counts ≤ most_clauses
  pub room : 3 * total counts ≤ length lits
  pub below : All (All (λ l. l.variable < n)) (clauses counts lits)

-- the two tables of sets that are made of the clauses: what each value of each variable satisfies, and what mentions each variable
pub record Prepared (cs : List (List Literal)) (sat uses : List ℕ) : Type 0 where
  pub sat_long : sat_words ≤ length sat
  pub uses_long : uses_words ≤ length uses
  pub satisfies : (v x : ℕ) → v < variables → x < values → SetOf (satisfied_at v x) cs sat (v * values + x)
  pub mentioned : (v : ℕ) → v < variables → SetOf (mentions v) cs uses v

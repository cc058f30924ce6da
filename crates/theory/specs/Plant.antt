-- What an accepted sheet says of its plant. Assumes nothing: these are definitions.
use Rattle.std.specs.Prelude.{◌≡◌, true, List, ℕ, ◌^◌, ◌≤◌, ◌<◌, length, get_or}
use Rattle.model.specs.Lists.{All}
use Rattle.model.specs.Sheet.{Literal, Plant, Edition, sizes}

-- a domain's size is from 1 to 16
abbrev pub Sized : ℕ → Type 0
Sized s = (1 ≤ s) × (s ≤ 16)

-- the literal's variable is present and its value is in the domain
pub record Present (domains : List ℕ) (l : Literal) : Type 0 where
  pub variable : l.variable < length domains
  pub sign : l.sign ≤ 1
  pub value : l.value < get_or domains l.variable 0

-- what the rules 7 to 11 and 20 and the widths of the fields leave; nothing here says that there is a decision variable
pub record Accepted (e : Edition) (p : Plant) : Type 0 where
  pub decisions : length p.costs ≤ e.most
  pub states : length p.states ≤ 32
  pub clauses : length p.clauses ≤ 512
  pub decision_sizes_lem : All (λ row. Sized (length row)) p.costs
  pub state-sizes : All Sized p.states
  pub costs : All (All (λ c. c < 2 ^ e.cost_bits)) p.costs
  -- where weights stand, none is zero
  pub weights : e.weighed ≡ true → All (All (λ c. 1 ≤ c)) p.costs
  pub literals : All (λ c. (length c ≤ 15) × All (Present (sizes p)) c) p.clauses

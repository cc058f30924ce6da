-- Tables that no rule refuses. Assumes nothing: these are definitions.
use Rattle.std.specs.Prelude.{◌≡◌, true}
use Rattle.std.proofs.Math.Option.{none}
use Rattle.model.specs.Sheet.{edition1}
use Rattle.model.specs.Calls.{first_given}
use Rattle.model.specs.Tables.{Tables}
use Rattle.model.specs.TableCalls.{lengths_agree, table_grounds}

-- no ground of 16, 17 or 7 to 11 is given
pub record Ruled (t : Tables) : Type 0 where
  pub lengths : lengths_agree t ≡ true
  pub author : first_given (table_grounds edition1 t) ≡ none

-- What a caller needs besides the contracts: the tables of a plant are those that these functions read. Assumes nothing.
use mathlib.Core.Path.{sym, ap, ◌∙◌}
use mathlib.Core.List.{List}
use Prim.Native.Nat.{ℕ}
use Rattle.model.specs.Sheet.{Plant}
use Rattle.theory.specs.Tables.{rows, Tabled}
use Rattle.theory.specs.Value.{PreferredValues}
use Rattle.theory.proofs.Tables.{tabled-decisions}
use Rattle.children.specs.Children.{Tables}
use Rattle.children.specs.declared.Choices.{Choices}

pub tables_of_lem : {p : Plant} {choices : Choices} {counts lits : List ℕ} → Tabled p choices.decisions choices.sizes.now choices.prices.now counts lits → PreferredValues choices.weighed p choices.preferred → Tables p choices
tables_of_lem {choices = choices} t e = record {
  table = record { rows_are = ap (λ (q : Plant). q.costs) t.plant ∙ ap (λ (ss : List ℕ). rows ss choices.prices.now) (sym (tabled-decisions t)); preferred-is = e };
  decisions = t.decisions;
  sizes-are = tabled-decisions t;
}

-- `table_rules::signed` meets its contract: `all` answers what the test says of each. Assumes nothing.
use mathlib.Core.Path.{sym, ◌∙◌}
use mathlib.Core.List.{List, map}
use Prim.Native.Nat.{ℕ}
use lib.Dec.{leb}
use borrow.Author.Rules.{rules}
use borrow.Author.Tests.{tests}
use Rattle.std.proofs.lemmas.Iterator.{YieldsList-from_slice}
use Rattle.std.proofs.lemmas.Iterator.Search.{all_from_yields_List}
use Rattle.std.proofs.lemmas.List.Folds.{list_all-map}
use Rattle.model.specs.Sheet.{Literal}
use Rattle.table_rules.specs.Triple.{literal_of}
use Rattle.table_rules.proofs.Laws.{tested}
use Rattle.table_rules.proofs.signed.Goals as goal

pub returns : goal.returns
returns c =
    let triples = c.triples.result.now in
    let each = all_from_yields_List (λ (t : List ℕ). leb (literal_of t).sign 1) _ _ c.all.result c.all.ensures.ran (YieldsList-from_slice triples cc) (λ x b q k. search (rules, tests)) in
    rw (← c.triples.ensures) (each ∙ sym (list_all-map (λ (l : Literal). leb l.sign 1) literal_of triples) ∙ tested _ (map literal_of triples))

-- `table_rules::sized` meets its contract: `all` answers what the test says of each. Assumes nothing.
use mathlib.Core.Bool.{◌&&◌}
use mathlib.Core.Path.{◌∙◌}
use Prim.Native.Nat.{ℕ}
use lib.Dec.{leb}
use borrow.Author.Rules.{rules}
use borrow.Author.Tests.{tests}
use Rattle.std.proofs.lemmas.Iterator.{YieldsList-from_slice}
use Rattle.std.proofs.lemmas.Iterator.Search.{all_from_yields_List}
use Rattle.table_rules.proofs.Laws.{tested}
use Rattle.table_rules.proofs.sized.Goals as goal

pub returns : goal.returns
returns c =
    let sizes = c.args.sizes.now in
    all_from_yields_List (λ (n : ℕ). leb 1 n && leb n 16) _ _ c.all.result c.all.ensures.ran (YieldsList-from_slice sizes cc) (λ x b q k. search (rules, tests)) ∙ tested _ sizes

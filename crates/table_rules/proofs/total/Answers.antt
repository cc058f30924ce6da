-- `table_rules::total` meets its contract: std's sum is the model's. Assumes nothing.
use mathlib.Core.Path.{◌∙◌}
use native.Mathlib.Omega.{arith}
use borrow.Author.Rules.{rules}
use Rattle.std.specs.List.{sum}
use mathlib.Core.Path.{◌≡◌}
use Rattle.table_rules.proofs.Laws.{summed, bytes_most}
use Rattle.table_rules.proofs.total.Goals as goal

pub returns : goal.returns
returns c =
    let bytes = c.args.bytes.now in
    let e : c.sum.result ≡ sum bytes = search rules in
    let f = e ∙ summed bytes in
    (f, omega (arith, bytes_most bytes (λ i. omega (arith, c.type_inv.bytes i))))

-- `store::manifests_any` meets its contract: the test answers for the conflict at an entry's place. Assumes nothing.
use mathlib.Core.Path.{refl, ◌∙◌}
use Rattle.std.proofs.Common.{rules}
use Rattle.model.specs.Conflict.{manifests}
use Rattle.store.proofs.Entries.{keeps-answer}
use Rattle.store.proofs.Scan.{some_of_all}
use Rattle.store.proofs.manifests_any.Goals as goal

pub returns : goal.returns
returns c d conflicts n k w l =
    c.is_some.ensures
    ∙ some_of_all (manifests n) conflicts c.args.m k.count (λ i r h given. keeps-answer k i h refl refl manifests w l (search rules)) _ c.first_where.ensures

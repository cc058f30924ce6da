-- `store::first_unresolved` meets its contract: the test answers for the conflict at an entry's place. Assumes nothing.
use mathlib.Core.Path.{refl}
use mathlib.Core.Bool.{not}
use mathlib.Core.List.{[]}
use native.Mathlib.Omega.{arith}
use lib.ListN.{get_or}
use Rattle.std.proofs.Common.{rules}
use Rattle.model.specs.Conflict.{resolves}
use Rattle.store.proofs.Entries.{keeps-wide, keeps-answer}
use Rattle.store.proofs.Scan.{found-unresolved, all-resolved}
use Rattle.store.proofs.first_unresolved.Goals as goal

pub returns-in_err-first : goal.returns-in_err-first
returns-in_err-first c d conflicts n k w l =
    rw c.from_residual.ensures (all-resolved n conflicts c.args.m k.count (λ i r h given. keeps-answer k i h refl refl (λ a b. not (resolves a b)) w l (search rules))
    (rw (c.in_err-first.was) at (c.first_from.ensures (λ i h. absurd (omega arith)))))

pub returns : goal.returns
returns c d conflicts n k w l =
    let found = rw (c.in_ok-first.was) at (c.first_from.ensures (λ i h. absurd (omega arith))) in
    let at = c.in_ok-first.first in
    let entry = c.entry_at-entry.ensures in (
      get_or conflicts at [],
      found-unresolved n conflicts c.args.m k.count (λ i r h given. keeps-answer k i h refl refl (λ a b. not (resolves a b)) w l (search rules)) at found,
      c.narrowed.ensures (get_or conflicts at []) (keeps-wide k at found.there.0 entry.0 entry.1),
    )

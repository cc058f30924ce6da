-- `subsumption::admit` meets its contract: the first entry that is related to the conflict settles whether it is dropped, and from there on those that contain it are removed. Assumes nothing.
use mathlib.Core.Path.{refl, sym, ◌∙◌}
use mathlib.Core.List.{[]}
use Prim.Native.Nat.{◌+◌, ◌*◌}
use native.Mathlib.Omega.{arith}
use Rattle.std.proofs.Common.{rules}
use Rattle.model.specs.Conflict.{manifests}
use Rattle.theory.specs.Store.{related}
use Rattle.theory.proofs.Lists.{all_map}
use Rattle.store.proofs.Entries.{keeps-answer}
use Rattle.store.proofs.Scan.{any_one, found_at, none_of_all}
use Rattle.subsumption.proofs.Subsuming.{admitted-unrelated, admitted-dropped, admitted-put}
use Rattle.subsumption.proofs.Pushing.{same-behind, wide-words}
use Rattle.subsumption.proofs.admit.Goals as goal

pub returns-in_default : goal.returns-in_default
returns-in_default c =
    record {
      few = omega arith;
      kept = λ d conflicts n k p w l.
          let wide = wide-words w c.widened-conflict.ensures in
          let none = none_of_all (related n) conflicts c.args.m k.count (λ i r h given. keeps-answer k i h refl refl related wide l (search rules)) (rw c.in_default.is at c.first_where-found.ensures) in
          rw (admitted-unrelated conflicts n none) (c.append.ensures.kept d conflicts n k w l);
      behind = c.append.ensures.behind;
    }

pub returns-then-manifests : goal.returns-then-manifests
returns-then-manifests c =
    let at = c.in-Some.first in
    let found = rw c.in-Some.is at c.first_where-found.ensures in
    let entry = c.entry_at.ensures in record {
      few = omega arith;
      kept = λ d conflicts n k p w l.
          let wide = wide-words w c.widened-conflict.ensures in
          let first = found_at (related n) conflicts c.args.m k.count (λ i r h given. keeps-answer k i h refl refl related wide l (search rules)) at found in
          let contains = keeps-answer k at found.there.0 entry.0 entry.1 manifests wide l c.manifests.ensures in
          let alone = any_one (manifests n) conflicts [] at (omega (arith, k.count, found.there.0)) in
          rw (admitted-dropped conflicts n at first.0 (alone ∙ sym contains ∙ c.if-manifests.true)) k;
      behind = refl;
    }

pub returns : goal.returns
returns c =
    let s = c.args in
    let at = c.in-Some.first in
    let found = rw c.in-Some.is at c.first_where-found.ensures in
    let entry = c.entry_at.ensures in
    let pushed = c.push_out-left in
    let appended = c.append-2 in record {
      few = omega arith;
      kept = λ d conflicts n k p w l.
          let wide = wide-words w c.widened-conflict.ensures in
          let first = found_at (related n) conflicts s.m k.count (λ i r h given. keeps-answer k i h refl refl related wide l (search rules)) at found in
          let contains = keeps-answer k at found.there.0 entry.0 entry.1 manifests wide l c.manifests.ensures in
          let long = all_map (λ t o. o.0 ∙ sym l) conflicts k.each in
          let alone = any_one (manifests n) conflicts [] at (omega (arith, k.count, found.there.0)) in
          rw (admitted-put conflicts n at first.0 long p (λ inside. first.1) (alone ∙ sym contains ∙ c.if-manifests.false))
          (appended.ensures.kept d _ n (pushed.ensures.kept d conflicts n k wide l) w l);
      behind = same-behind appended.new.store pushed.new.store (2 * pushed.result + 2) (2 * s.m + 2) (omega arith) appended.ensures.behind
          ∙ same-behind pushed.new.store s.store.now (2 * s.m) (2 * s.m + 2) (omega arith) pushed.ensures.behind;
    }

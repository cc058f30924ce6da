-- `descend` meets its contract: each way out of a turn is a law of `Turns`, and what is recalled and noted a law of `Failing`. Assumes nothing.
use mathlib.Core.Path.{◌≡◌, refl, ◌∙◌}
use mathlib.Core.Bool.{◌||◌}
use Prim.Native.Nat.{◌+◌, ◌*◌, ◌<◌}
use native.Mathlib.Omega.{arith}
use lib.ListN.{get_or, length-set}
use Rattle.clauses.specs.Numbers.{values, pair_clauses}
use Rattle.clauses.specs.Pairs.{of_pair}
use Rattle.clauses.specs.Sets.{in_set, Within}
use Rattle.plan.specs.Plans.{in_plan}
use Rattle.trials.proofs.Endings.{not_consistent, not_spent, few-consistent, few-spent, failed_few}
use Rattle.plan.proofs.Alike.{same_refl, same_then, within_same, searchable_same, left-same, alike_same, alike-fewer, within-alike, alike-deeper}
use Rattle.plan.proofs.Notes.{needs_first, needs_left, needs_right}
use Rattle.plan.proofs.Pairs.{pair_or, pair-within}
use Rattle.plan.proofs.Rows.{inside-here}
use Rattle.pair_search.proofs.Failing.{finds-same, found_recalled, found_failed}
use Rattle.pair_search.proofs.Turns.{finds-end, tries_first, tries_end, tries_stop, tries_again, deep_tries, deep-finds}
use Rattle.pair_search.proofs.+descend.Goals as goal
use Rattle.pair_search.proofs.+descend.Goals.{then-covered+in-Inconsistent, else-covered}

pub returns-then-v-plan : goal.returns-then-v-plan
returns-then-v-plan t c = record {
  finds = finds-end _ _ _ _ _ c.if-v-plan.true _ refl;
  few = few-consistent _ _ _ (omega arith) refl;
  long = refl;
  fails = λ t e. absurd (not_consistent _ _ _ refl e);
}

pub returns : goal.returns
returns t c =
    let n = c.if-v-plan.false in
    found_recalled _ _ _ _ _ _ (inside-here _ _ c.requires n).below _ _ n c.in-Some.ensures c.if-known-left.true c.ranges.left.fits refl

pub loop-x-init : goal.loop-x-init
loop-x-init t c =
    let n = c.if-v-plan.false in
    let e : c.args.v * 4 + 2 + 1 ≡ c.args.v * 4 + 3 = omega arith in
    (inside-here _ _ c.requires n, same_refl _, omega arith, (λ inOther a. tries_first _ _ _ _ _ n), (λ cs sizes k. k), λ k h q. rw (c.at-needs.ensures, e) (needs_first c.args.plan.now c.args.v k h q))

pub returns-then-rest-eq0 : goal.returns-then-rest-eq0
returns-then-rest-eq0 t c =
    let i = c.loop-x.invariant in
    record {
      finds = tries_stop _ _ _ _ _ _ _ (i.3 _ (alike_same _ _)) c.loop-x-test.true c.if-rest-eq0.true _ _ refl;
      few = few-spent _ _ _ (omega arith) refl;
      long = i.1.long;
      fails = λ t e. absurd (not_spent _ _ _ refl e);
    }

pub descend-deeper-requires : goal.descend-deeper-requires
descend-deeper-requires t c =
    let i = c.loop-x.invariant in
    (omega (arith, i.0.fewer, left-same i.1 i.0.deeper), searchable_same i.1 i.0.deeper)

pub returns-in_default : goal.returns-in_default
returns-in_default t c =
    let d = c.descend-deeper in
    let i = c.loop-x.invariant in
    let f = c.in_default-2.not-Inconsistent in
    let same = d.ensures.long ∙ i.1.long in
    record {
      finds = deep-finds _ _ _ _ _ _ _ (i.3 _ (alike_same _ _)) c.loop-x-test.true
          (omega (arith, c.if-rest-eq0.false)) i.2 _ _ refl (pair-within _ _ _ _ _ _ (within_same i.1 _ i.0.below _ _ (rw (c.with-tried.ensures, c.at-row.ensures) at c.covered.ensures)))
          c.if-covered.true _ (λ k h. rw (c.with-tried.ensures, c.at-row.ensures) (pair_or _ _ _ _ k h)) _ _ (finds-same i.1 _ _ _ _ _ _ i.4 d.ensures.finds) d.ensures.few f (omega (arith, i.0.below, i.0.long, same));
      few = omega (arith, d.ensures.few, i.2);
      long = length-set d.new.plan _ _ ∙ same;
      fails = λ t e. absurd (f t e);
    }

pub loop-x-preserved : goal.loop-x-preserved
loop-x-preserved t c =
    let l = c.loop-x in
    let i = l.invariant in
    let lt = c.loop-x-test.true in
    let more : 0 < l.rest = omega (arith, c.if-rest-eq0.false) in
    let next = get_or c.args.plan.now (c.args.v * 4 + 1) 0 in
    let row = in_set c.args.sat.now (c.args.v * values + l.x) in
    let w : Within pair_clauses (in_plan c.args.plan.now c.args.v) (λ k. of_pair c.args.held k || row k) c.covered.result =
    pair-within _ _ _ _ _ _ (within_same i.1 _ i.0.below _ _ (rw (c.with-tried.ensures, c.at-row.ensures) at c.covered.ensures)) in
    elim c.if-covered.branch [
      | then-covered+in-Inconsistent d ↦ (
          let r = d.descend-deeper in
          let e = d.in-Inconsistent.is in
          let n = failed_few _ _ _ r.ensures.few e in
          let f = r.ensures.fails _ e in (
            i.0,
            rw d.plan-is (same_then i.1 f.restored),
            rw d.rest-is (omega (arith, n, i.2)),
            λ inOther a.
                let y = rw (d.needs-is, d.with-needs.ensures, d.at-needed.ensures) at a in
                let z = alike-fewer (needs_left r.new.plan next l.needs.first l.needs.second) y in
                rw d.rest-is (deep_tries _ _ inOther _ _ _ _ (i.3 inOther z) lt more i.2 _ _ refl (within-alike row i.5 z w) d.if-covered.true (λ c. inOther c || row c) (λ c h. refl) _ _
                (finds-same i.1 _ _ _ _ _ _ i.4 (f.alike (λ c. inOther c || row c) (alike-deeper row (needs_right r.new.plan next l.needs.first l.needs.second) (λ k h. rw (c.with-tried.ensures, c.at-row.ensures) (pair_or _ _ _ _ k h)) y))) _ n e),
            rw d.plan-is (λ cs sizes k. f.learns cs sizes (i.4 cs sizes k)),
            λ c h q. rw (d.needs-is, d.with-needs.ensures, d.at-needed.ensures) (needs_left r.new.plan next l.needs.first l.needs.second c h (i.5 c h q)),
          )
          )
      | else-covered d ↦ (
        i.0,
        rw d.plan-is i.1,
        rw d.rest-is (omega (arith, i.2)),
        λ inOther a.
            let y = rw d.needs-is at a in
            rw d.rest-is (tries_again _ _ inOther _ _ _ _ (i.3 inOther y) lt more i.2 _ _ refl (within-alike row i.5 y w) d.if-covered.false),
        rw d.plan-is i.4,
        rw d.needs-is i.5,
      )
    ]

pub returns-2 : goal.returns-2
returns-2 t c =
    let i = c.loop-x.invariant in
    found_failed _ _ _ _ _ _ i.0.below _ _ _ _ i.1 i.0.long _ (λ inOther a. tries_end _ _ _ _ _ _ _ (i.3 inOther a) c.loop-x-test.false _ _ refl) _ i.4 i.2 c.note.ensures refl

-- `children::resolve` meets its contract. The loop's invariant: the children of the members passed have been put, and what is left is the children of the node with those members at the conflict's values. Assumes nothing.
use Rattle.std.proofs.lemmas.Result.{err_from_is_err_and}
use Rattle.children.proofs.Members.{midway_start, here, midway_skip, here-free, here-small, midway_next, midway_full}
use Rattle.children.proofs.resolve.Goals as goal
use Rattle.children.proofs.resolve.Goals.{in-Some+in_ok-entries, in_default}

pub loop-v-init : goal.loop-v-init
loop-v-init c s t k w valid = midway_start s k valid

pub returns-in_err-entries : goal.returns-in_err-entries
returns-in_err-entries c s tables k w valid =
    let l = c.loop-v in
    let t = c.loop-v-test.true in
    let told = c.wanted.ensures.told in
    let is = c.in-Some.is in
    let y = c.in-Some.y in
    let h = l.invariant s tables k w valid in
    let p = err_from_is_err_and c.from_residual.result c.from_residual.ensures.1 in
    rw (p.1, p.2) (midway_full s k valid tables _ _ _ _ h l.auto.queue t _ _ w told y is _
    (rw c.in_err-entries.was at (c.put_values.ensures (here s k valid tables _ _ _ _ h l.auto.queue t) tables (here-free s k valid tables _ _ _ _ h l.auto.queue t _ _ w told y is).free)))

pub loop-v-preserved : goal.loop-v-preserved
loop-v-preserved c s tables k q valid =
    let l = c.loop-v in
    let t = c.loop-v-test.true in
    let told = c.wanted.ensures.told in
    let h = l.invariant s tables k q valid in
    elim c.match-wanted.branch [
      | in-Some+in_ok-entries w ↦
          let is = w.in-Some.is in
          let y = w.in-Some.y in
          let f = here-free s k valid tables _ _ _ _ h l.auto.queue t _ _ q told y is in
          let child = w.given-passed.ensures s.plant h.held h.is f (here-small s k valid tables _ _ _ _ h l.auto.queue t _ _ q told y is) in
          rw (w.queue-is, w.passed-is, w.entries-is) (midway_next s k valid tables _ _ _ _ h l.auto.queue t _ _ q told y is _ _ _ child
          (rw w.in_ok-entries.was at (w.put_values.ensures (here s k valid tables _ _ _ _ h l.auto.queue t) tables f.free)))
      | in_default w ↦ rw (w.queue-is, w.passed-is, w.entries-is) (midway_skip s k valid tables _ _ _ _ h l.auto.queue t _ _ q told w.in_default.is)
    ]

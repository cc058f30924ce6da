-- `queue::sieve` meets its contract. The invariant: what stands in front is what any test that says what `stays` answers keeps of the entries read, and the others stand as they were. The measure is how many are left to read. Assumes nothing.
use mathlib.Core.Path.{◌≡◌, refl, sym, ap, ◌∙◌}
use Prim.Native.Nat.{◌<◌}
use native.Mathlib.Omega.{arith}
use lib.ListN.{length, take}
use Rattle.model.specs.Lists.{keep}
use Rattle.queue.specs.Entries.{pairs, entries}
use Rattle.queue.specs.Inside.{nth}
use Rattle.queue.specs.Queue.{Ready}
use Rattle.queue.proofs.PairLaws.{room}
use Rattle.queue.proofs.SieveLaws.{sieve-start, sieve-keep, sieve-drop}
use Rattle.queue.proofs.HoldsLaws.{spared, stays_spared, holds-sieve}
use Rattle.queue.proofs.sieve.Goals as goal
use Rattle.queue.proofs.sieve.Goals.{then-stays, else-stays}

pub widened-conflict-requires : goal.widened-conflict-requires
widened-conflict-requires c = tt

pub loop-i-init : goal.loop-i-init
loop-i-init c = (refl, omega arith, omega arith, λ test answers. sieve-start test (pairs c.args.queue.now))

pub stays-requires : goal.stays-requires
stays-requires c = tt

pub loop-i-preserved : goal.loop-i-preserved
loop-i-preserved c =
    let l = c.loop-i in
    let e = c.entry_at-e in
    let t = c.stays in
    let old = pairs c.args.queue.now in
    let more : l.i < c.args.n = omega arith in
    let within : l.i < length old = omega (arith, room c.args.queue.now c.args.n c.requires) in
    let space : l.count < length (pairs l.queue) = omega (arith, room l.queue c.args.n (omega arith)) in
    elim c.if-stays.branch [
      | then-stays w ↦ (
        ap length w.queue-is ∙ w.put.auto.queue ∙ l.invariant.0,
        omega arith,
        omega arith,
        λ test answers.
            let inv = l.invariant.3 test answers in
            let same : (e.result.a, e.result.b) ≡ nth old l.i = sym e.ensures ∙ inv.rest l.i (omega arith) in
            rw (w.queue-is, w.count-is, w.put.ensures, same) (sieve-keep inv l.invariant.2 within space (sym (answers l.i more t.result (rw same at t.ensures)) ∙ w.if-stays.true)),
      )
      | else-stays w ↦ (
        ap length w.queue-is ∙ l.invariant.0,
        omega arith,
        omega arith,
        λ test answers.
            let inv = l.invariant.3 test answers in
            let same : (e.result.a, e.result.b) ≡ nth old l.i = sym e.ensures ∙ inv.rest l.i (omega arith) in
            rw (w.queue-is, w.count-is) (sieve-drop inv l.invariant.2 within (sym (answers l.i more t.result (rw same at t.ensures)) ∙ w.if-stays.false)),
      )
    ]

pub shape_of-queue : goal.shape_of-queue
shape_of-queue c = c.rebuild.auto.queue ∙ c.loop-i.invariant.0

pub returns : goal.returns
unfolding Ready entries
returns c = (
  omega arith,
  λ ss o nodes conflict suits is valid words long h.
      let l = c.loop-i in
      let wide = c.widened-conflict in
      let r = c.rebuild in
      let n = c.args.n in
      let old = c.args.queue.now in
      let all : l.i ≡ n = omega arith in
      let answers = stays_spared ss o conflict suits long n old nodes h valid c.args.weighed is wide.result.mask wide.result.values (rw wide.ensures.1 (record { mask = c.args.mask; words = words; wide_is = wide.ensures.0 })) c.requires in
      let front : take l.count (pairs l.queue) ≡ keep (spared o.weighed conflict) (take n (pairs old)) = rw all at (l.invariant.3 (spared o.weighed conflict) answers).kept in
      holds-sieve ss o conflict suits long n old nodes h valid l.count r.new.queue (omega arith) r.ensures.heap (λ w. rw front at (r.ensures.same w)),
)

-- `from_root` meets its contract. Assumes nothing.
use mathlib.Core.List.{[]}
use native.Mathlib.Omega.{arith}
use Rattle.model.specs.Sheet.{edition_of, decision_sizes}
use Rattle.model.specs.Order.{order_of}
use Rattle.model.specs.Listing.{unassigned, enough_steps}
use Rattle.theory.proofs.Tables.{tabled-few}
use Rattle.queue.proofs.Callers.{holds-nothing}
use Rattle.children.proofs.Numbers.{node-entry}
use Rattle.listing.proofs.Starting.{root_few, start-steps, start-enough}
use Rattle.listing.proofs.from_root.Goals as goal

pub root-node-requires : goal.root-node-requires
root-node-requires c =
    let b = c.requires.0.tables in
    (tabled-few b.tabled, root_few c.args.query.now.weighed b.tabled b.accepted, b.tabled.cost-room)

pub push-requires : goal.push-requires
push-requires c = omega (arith, c.requires.0.room.queue-room)

pub run-requires : goal.run-requires
run-requires c =
    let t = c.requires.0 in
    let w = c.args.query.now.weighed in
    let o = order_of (edition_of w) t.plant in
    let node = c.root-node.ensures t.plant t.tables.tabled t.tables.accepted t.tables.preferred-is in
    let entry = c.entry_of-entry.ensures (decision_sizes t.plant) o (unassigned (decision_sizes t.plant)) (node-entry node).0 (node-entry node).1 node.valid node.mask_is node.code_is node.figure-is in
    start-steps t c.requires.2 c.first-progress.ensures _ c.push.auto.queue (c.push.ensures o [] (unassigned (decision_sizes t.plant)) (holds-nothing o _) entry)

pub returns : goal.returns
returns c t survivors s =
    let w = c.args.query.now.weighed in
    let o = order_of (edition_of w) t.plant in
    let node = c.root-node.ensures t.plant t.tables.tabled t.tables.accepted t.tables.preferred-is in
    let entry = c.entry_of-entry.ensures (decision_sizes t.plant) o (unassigned (decision_sizes t.plant)) (node-entry node).0 (node-entry node).1 node.valid node.mask_is node.code_is node.figure-is in
    let steps = start-steps t s c.first-progress.ensures _ c.push.auto.queue (c.push.ensures o [] (unassigned (decision_sizes t.plant)) (holds-nothing o _) entry) in
    rw (← c.push.auto.queue) (c.run.ensures steps (enough_steps (decision_sizes t.plant)) (start-enough (decision_sizes t.plant) survivors _))

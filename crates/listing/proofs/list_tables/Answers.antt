-- `list_tables` meets its contract: the sets and the preferred values are made once, steps 1 to 7 run, and what they leave is answered. Assumes nothing.
use native.Mathlib.Omega.{arith}
use Rattle.theory.proofs.Digits.{zero-at}
use Rattle.theory.proofs.Tables.{tabled-decisions, tabled-few, tabled-sized}
use Rattle.clauses.specs.Numbers.{sat_words, uses_words}
use Rattle.clauses.proofs.Callers.{tables_more}
use Rattle.conflict.proofs.Given.{tabled-limits, plan_long}
use Rattle.listing.proofs.Answering.{lists_of, finished_room, finished_ran}
use Rattle.listing.proofs.list_tables.Goals as goal

pub prepare-requires : goal.prepare-requires
prepare-requires c =
    let l = tabled-limits c.requires.0.1 in
    (tables_more _ 48 _ _ l.few l.tables, omega arith, omega arith, zero-at sat_words, zero-at uses_words)

pub preferred-preferred-requires : goal.preferred-preferred-requires
preferred-preferred-requires c =
    let t = c.requires.0.1 in
    (tabled-few t, t.decisions, t.cost-room, rw (tabled-decisions t) at (tabled-sized t))

pub listing-f-requires : goal.listing-f-requires
listing-f-requires c =
    let t = c.requires.0.1 in
    let ok = c.requires.0.2 in
    lists_of t ok c.prepare.ensures plan_long (c.preferred-preferred.ensures _ _ _ t) c.requires.1

pub finish-requires : goal.finish-requires
finish-requires c =
    let t = c.requires.0.1 in
    let ok = c.requires.0.2 in
    finished_room (c.listing-f.ensures (lists_of t ok c.prepare.ensures plan_long (c.preferred-preferred.ensures _ _ _ t) c.requires.1))

pub returns : goal.returns
returns c p t ok =
    let h = c.listing-f.ensures (lists_of t ok c.prepare.ensures plan_long (c.preferred-preferred.ensures p _ _ t) c.requires.1) in
    finished_ran c.args.weighed p c.args.k _ _ _ _ h c.listing-f.auto.queue c.listing-f.auto.store c.finish.ensures

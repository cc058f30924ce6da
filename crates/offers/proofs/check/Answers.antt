-- `check` meets its contract: one law for each way out. Assumes nothing.
use mathlib.Core.Path.{sym, ◌∙◌}
use native.Mathlib.Omega.{arith}
use Rattle.theory.proofs.Words.{assignment_length}
use Rattle.trials.proofs.Endings.{was_consistent, was_inconsistent, was_spent}
use Rattle.offers.proofs.Offering.{offer_held, offer-ended, check_malformed, check_consistent, check_spent, check_inconsistent}
use Rattle.offers.proofs.check.Goals as goal

pub returns-then-not-well_formed-clause-one : goal.returns-then-not-well_formed-clause-one
returns-then-not-well_formed-clause-one c p costs t n found h l long kept =
    let e = c.entry_at-e.ensures in
    check_malformed t c.args.limit n c.args.i _ found _ _ _ _ h l e.0 e.1 long kept c.requires.2 (sym c.well_formed-2.ensures ∙ c.if-not-well_formed.true)

pub returns-in-Consistent-clause-one : goal.returns-in-Consistent-clause-one
returns-in-Consistent-clause-one c p costs t n found h l long kept =
    let e = c.entry_at-e.ensures in
    let ok = sym c.well_formed-2.ensures ∙ c.if-not-well_formed.false in
    let ended = offer-ended t c.args.limit c.args.so_far.trials _ _ ok (omega arith) (omega arith) c.tested.ensures.answer in
    check_consistent t c.args.limit n c.args.i _ found _ _ _ _ h l e.0 e.1 long kept c.requires.2 ok (was_consistent _ _ _ _ _ ended c.in-Consistent.is)

pub returns-in-Spent-clause-one : goal.returns-in-Spent-clause-one
returns-in-Spent-clause-one c p costs t n found h l long kept =
    let e = c.entry_at-e.ensures in
    let ok = sym c.well_formed-2.ensures ∙ c.if-not-well_formed.false in
    let ended = offer-ended t c.args.limit c.args.so_far.trials _ _ ok (omega arith) (omega arith) c.tested.ensures.answer in
    check_spent t c.args.limit n c.args.i _ found _ _ _ _ h l e.0 e.1 long kept c.requires.2 ok (was_spent _ _ _ _ _ ended c.in-Spent.is).0

pub returns-in-Inconsistent-clause-one : goal.returns-in-Inconsistent-clause-one
returns-in-Inconsistent-clause-one c p costs t n found h l long kept =
    let e = c.entry_at-e.ensures in
    let g = c.admit-survivors.ensures in
    let ok = sym c.well_formed-2.ensures ∙ c.if-not-well_formed.false in
    let ended = offer-ended t c.args.limit c.args.so_far.trials _ _ ok (omega arith) (omega arith) c.tested.ensures.answer in
    let whole = assignment_length _ _ _ kept.narrow in
    check_inconsistent t c.args.limit n c.args.i _ found _ _ _ _ h l e.0 e.1 long kept c.requires.2 ok _ whole (was_inconsistent _ _ _ _ _ ended c.in-Inconsistent.is).0
    (λ apart. g.kept _ _ _ kept apart (offer_held t _ _ ok (omega arith) (omega arith)).words whole) g.behind

-- `table_rules::author_ground` meets its contract: its tests are the model's grounds, in their order. Assumes nothing.
use mathlib.Core.Path.{ap, ◌∙◌}
use mathlib.Core.Bool.{not}
use borrow.Author.Tests.{lt-leb, le-leb}
use Rattle.model.specs.Tables.{Tables}
use Rattle.theory.specs.Tables.{tables_given}
use Rattle.table_rules.proofs.Laws.{fields_wrong, decisions_wrong, states_wrong, clauses_wrong, literals-left}
use Rattle.table_rules.proofs.author_ground.Goals as goal

pub returns-then-not-fields_fit : goal.returns-then-not-fields_fit
returns-then-not-fields_fit c costs =
    let s = c.args in
    let t : Tables = tables_given s.d s.s s.c s.sizes.now costs s.counts.now s.lits.now in
    let e = c.fields_fit.ensures s.d s.s s.c costs in
    fields_wrong t e (ap not c.if-not-fields_fit.true)

pub returns-then-not-decisions_allowed : goal.returns-then-not-decisions_allowed
returns-then-not-decisions_allowed c costs =
    let s = c.args in
    let t : Tables = tables_given s.d s.s s.c s.sizes.now costs s.counts.now s.lits.now in
    let e = c.fields_fit.ensures s.d s.s s.c costs in
    decisions_wrong t e (ap not c.if-not-fields_fit.false) (rw c.decisions_allowed.ensures at (ap not c.if-not-decisions_allowed.true))

pub returns-then-s-gt-STATES : goal.returns-then-s-gt-STATES
returns-then-s-gt-STATES c costs =
    let s = c.args in
    let t : Tables = tables_given s.d s.s s.c s.sizes.now costs s.counts.now s.lits.now in
    let e = c.fields_fit.ensures s.d s.s s.c costs in
    states_wrong t e (ap not c.if-not-fields_fit.false) (rw c.decisions_allowed.ensures at (ap not c.if-not-decisions_allowed.false)) (ap not (lt-leb s.s 32 c.if-s-gt-STATES.true))

pub returns-then-c-gt-CLAUSES : goal.returns-then-c-gt-CLAUSES
returns-then-c-gt-CLAUSES c costs =
    let s = c.args in
    let t : Tables = tables_given s.d s.s s.c s.sizes.now costs s.counts.now s.lits.now in
    let e = c.fields_fit.ensures s.d s.s s.c costs in
    clauses_wrong t e (ap not c.if-not-fields_fit.false) (rw c.decisions_allowed.ensures at (ap not c.if-not-decisions_allowed.false)) (ap not (le-leb s.s 32 c.if-s-gt-STATES.false)) c.if-c-gt-CLAUSES.true

pub returns : goal.returns
returns c costs =
    let s = c.args in
    let t : Tables = tables_given s.d s.s s.c s.sizes.now costs s.counts.now s.lits.now in
    let e = c.fields_fit.ensures s.d s.s s.c costs in
    c.literal_ground.ensures ∙ literals-left t e (ap not c.if-not-fields_fit.false) (rw c.decisions_allowed.ensures at (ap not c.if-not-decisions_allowed.false)) (ap not (le-leb s.s 32 c.if-s-gt-STATES.false)) c.if-c-gt-CLAUSES.false

-- `tests::byte_at` meets its contract: past the decision variables nothing is assigned. Assumes nothing.
use mathlib.Core.Path.{sym, ap}
use mathlib.Core.Option.{none}
use native.Mathlib.Omega.{arith}
use lib.ListN.{get_or-eq_default}
use Rattle.model.specs.Assignment.{assignment_of}
use Rattle.theory.specs.Words.{byte}
use Rattle.theory.proofs.Words.{assignment_length}
use Rattle.conflict.proofs.tests.byte_at.Goals as goal

pub returns-then-v-d : goal.returns-then-v-d
returns-then-v-d c = c.value.ensures c.args.d c.requires c.if-v-d.true

pub returns : goal.returns
returns c =
    let s = c.args in
    sym (ap byte (get_or-eq_default (assignment_of s.d s.mask s.values) none {n = s.v} (omega (arith, assignment_length s.d s.mask s.values c.requires))))

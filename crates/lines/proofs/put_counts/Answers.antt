-- `lines::put_counts` meets its contract: its six parts are put one after another. Assumes nothing.
use Prim.Native.Nat.{◌≤◌}
use native.Mathlib.Omega.{arith}
use lib.ListN.{length}
use Rattle.model.specs.Text.{bytes, decimal, counts_line}
use Rattle.theory.proofs.Puts.{puts_then, puts-pair}
use Rattle.lines.proofs.Lines.{counts_length}
use Rattle.lines.proofs.put_counts.Goals as goal

pub put_decimal-first-requires : goal.put_decimal-first-requires
put_decimal-first-requires c = let s = c.args in omega (arith, counts_length s.listed s.tested s.learned s.unkept s.trials)

pub put_named-second-requires : goal.put_named-second-requires
put_named-second-requires c = let s = c.args in omega (arith, counts_length s.listed s.tested s.learned s.unkept s.trials)

pub put_named-third-requires : goal.put_named-third-requires
put_named-third-requires c = let s = c.args in omega (arith, counts_length s.listed s.tested s.learned s.unkept s.trials)

pub put_named-fourth-requires : goal.put_named-fourth-requires
put_named-fourth-requires c = let s = c.args in omega (arith, counts_length s.listed s.tested s.learned s.unkept s.trials)

pub put_named-fifth-requires : goal.put_named-fifth-requires
put_named-fifth-requires c = let s = c.args in omega (arith, counts_length s.listed s.tested s.learned s.unkept s.trials)

pub put_bytes-requires : goal.put_bytes-requires
put_bytes-requires c = let s = c.args in omega (arith, counts_length s.listed s.tested s.learned s.unkept s.trials)

pub returns : goal.returns
unfolding counts_line
returns c =
    let s = c.args in
    let within : s.at ≤ length s.out.now = omega (arith, c.requires) in
    let tested = puts-pair within (bytes " tested ") (decimal s.tested) c.put_decimal-first.ensures c.put_named-second.ensures in
    let learned = puts-pair within (bytes " learned ") (decimal s.learned) tested c.put_named-third.ensures in
    let unkept = puts-pair within (bytes " unkept ") (decimal s.unkept) learned c.put_named-fourth.ensures in
    let trials = puts-pair within (bytes " trials ") (decimal s.trials) unkept c.put_named-fifth.ensures in
    puts_then within trials c.put_bytes.ensures

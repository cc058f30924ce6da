-- `lines::put_states` meets its contract. The loop's invariant: the lines before place i are put. Assumes nothing.
use native.Mathlib.Omega.{arith}
use Rattle.lines.proofs.Lines.{lines_start, lines-room, lines_step, lines_end}
use Rattle.lines.proofs.put_states.Goals as goal

pub loop-i-init : goal.loop-i-init
loop-i-init c = let s = c.args in lines_start s.at s.codes.now s.costs.now s.out.now s.listed

pub put_state-next-requires : goal.put_state-next-requires
put_state-next-requires c =
    let h = c.loop-i in
    let s = c.args in
    let room = lines-room s.at s.codes.now s.costs.now s.out.now s.listed h.i h.next h.out c.loop-i-test.true c.requires.0 c.requires.1 h.invariant c.requires.2 in
    omega (arith, room)

pub loop-i-preserved : goal.loop-i-preserved
loop-i-preserved c =
    let h = c.loop-i in
    let s = c.args in
    let call = c.put_state-next in
    lines_step s.at s.codes.now s.costs.now s.out.now s.listed h.i h.next h.out c.loop-i-test.true c.requires.0 c.requires.1 h.invariant call.result call.new.out (omega arith) call.ensures

pub returns : goal.returns
returns c =
    let h = c.loop-i in
    let s = c.args in
    lines_end s.at s.codes.now s.costs.now s.out.now s.listed h.i h.next h.out c.loop-i-test.false h.invariant

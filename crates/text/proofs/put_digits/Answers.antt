-- `text::put_digits` meets its contract. The loop's invariant: the digits at the places from i on are put, and what is left holds those before them. Assumes nothing.
use mathlib.Core.Path.{◌≡◌, ◌∙◌}
use mathlib.Core.List.{map}
use native.Mathlib.Omega.{arith}
use lib.ListN.{length, length-map}
use Rattle.model.specs.Digits.{digits}
use Rattle.model.specs.Text.{digit_byte}
use Rattle.theory.proofs.Digits.{digits_length}
use Rattle.text.proofs.Putting.{digits-start, digits_step, digits-end}
use Rattle.text.proofs.put_digits.Goals as goal

pub loop-i-init : goal.loop-i-init
loop-i-init c = let s = c.args in digits-start s.at s.n s.base s.places s.out.now

pub loop-i-preserved : goal.loop-i-preserved
loop-i-preserved c =
    let h = c.loop-i in
    let s = c.args in
    digits_step s.at s.n s.base s.places s.out.now h.i h.rest c.digit_byte.result h.out (omega arith) (omega arith) c.requires.2 c.digit_byte.ensures h.invariant

pub returns : goal.returns
returns c =
    let h = c.loop-i in
    let s = c.args in
    let long : length (map digit_byte (digits s.base s.places s.n)) ≡ s.places = length-map (digits s.base s.places s.n) digit_byte ∙ digits_length s.base s.places s.n in
    record { buffer = digits-end s.at s.n s.base s.places s.out.now h.i h.rest h.out (omega arith) h.invariant; ends = omega arith }

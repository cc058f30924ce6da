-- A text at the front of a line, and what is left of one. Assumes nothing.
use Rattle.std.proofs.Common.{◌≡◌, ℕ, List, ◌++◌, length, take, drop, arith, length-drop, sym, ap, ◌∙◌, ◌-◌}
use Rattle.std.proofs.Math.Seq.{take-append_seam, take-length}
use Rattle.std.specs.Prelude.{Option, Result, Ok, Err, OnOk, OnErr}
use Rattle.std.specs.Io.KnownBytes.{Appends}
use Rattle.std.proofs.KnownBytes.{Appends-trans}
use Rattle.printing.specs.Front.{AppendsFront, Grows}
use Rattle.theory.specs.Puts.{Puts}
use Rattle.theory.proofs.Puts.{puts-front}

-- what is left of a text, taken to its end
pub left-whole : (text : List ℕ) (i : ℕ) → take (length text - i) (drop i text) ≡ drop i text
left-whole text i = ap (λ n. take n (drop i text)) (sym (length-drop i text)) ∙ take-length (drop i text)

-- a text put at the front of a line is what stands before the place after it
pub number-front : {text line done : List ℕ} {at : ℕ} → Puts 0 text line at done → take at done ≡ text
number-front {text} {line} {done} {at} p =
    let long : at ≡ length text = omega (arith, p.ends) in
    rw (puts-front p, long) (take-append_seam text (drop (length text) line))

-- a text that was written, or the first of it, leaves the bytes before it
pub grown : {E : Type 0} (old new : Option (List ℕ)) (text : List ℕ) (r : Result Unit E) → OnOk r (Appends old new text) → OnErr r (AppendsFront old new text) → Grows old new
grown old new text (Ok u) done part = (text, done)
grown old new text (Err e) done part = (take part.0 text, part.1.1)

pub grown_again : (old mid new : Option (List ℕ)) → Grows old mid → Grows mid new → Grows old new
grown_again old mid new a b = (a.0 ++ b.0, Appends-trans old mid new a.0 b.0 a.1 b.1)

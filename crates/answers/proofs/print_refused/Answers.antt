-- The word and the number, one after the other.
use Rattle.std.proofs.Common.{ℕ, List, ◌++◌}
use Rattle.std.specs.Prelude.{Option, Result, Ok, Err, OnOk}
use Rattle.std.specs.Io.KnownBytes.{Appends}
use Rattle.std.proofs.KnownBytes.{Appends-trans}
use Rattle.printing.proofs.Front.{grown, grown_again}
use Rattle.answers.proofs.print_refused.Goals as goal

-- what a second write appends comes behind what the first did
behind : {E : Type 0} (old mid new : Option (List ℕ)) (a b : List ℕ) (r : Result Unit E) → Appends old mid a → OnOk r (Appends mid new b) → OnOk r (Appends old new (a ++ b))
behind old mid new a b (Ok u) first second = Appends-trans old mid new a b first second
behind old mid new a b (Err e) first second = tt

pub returns-clause-ok : goal.returns-clause-ok
returns-clause-ok g c =
    behind (g.W.Write.contents c.args.out.now) (g.W.Write.contents c.print_text.new.out) (g.W.Write.contents c.print_number.new.out) _ _ c.print_number.result
    c.in_ok-print_text.ensures.ok
    (rw c.from.ensures at c.print_number.ensures.ok)

pub returns-clause-kept : goal.returns-clause-kept
returns-clause-kept g c =
    grown_again (g.W.Write.contents c.args.out.now) (g.W.Write.contents c.print_text.new.out) (g.W.Write.contents c.print_number.new.out)
    (grown _ _ _ _ c.print_text.ensures.ok c.print_text.ensures.err)
    (grown _ _ _ _ c.print_number.ensures.ok c.print_number.ensures.err)

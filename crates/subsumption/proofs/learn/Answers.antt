-- `subsumption::learn` meets its contract: all that contain the conflict are removed, and it is appended. Assumes nothing.
use native.Mathlib.Omega.{arith}
use Rattle.subsumption.proofs.Pushing.{wide-words}
use Rattle.subsumption.proofs.learn.Goals as goal

pub returns : goal.returns
returns c =
    record {
      few = omega arith;
      kept = λ d conflicts n k w l.
          c.append.ensures.kept d _ n (c.push_out-others.ensures.kept d conflicts n k (wide-words w c.widened.ensures) l) w l;
    }

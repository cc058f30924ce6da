-- What is shown of the bytes that a test leaves. Assumes nothing: these are definitions.
use Rattle.std.specs.Prelude.{List, ℕ, replicate}
use Rattle.model.specs.Calls.{state_bytes}
use Rattle.trials.specs.declared.Answer.{Answer}

abbrev pub shown_of : Answer → List ℕ → List ℕ
shown_of (Answer.Consistent t) left = left
shown_of (Answer.Inconsistent t) left = replicate state_bytes 0
shown_of (Answer.Spent t) left = replicate state_bytes 0

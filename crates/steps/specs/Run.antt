-- What a step and a run are given, and how a run ends. Assumes nothing: these are definitions.
use Rattle.std.specs.Prelude.{◌≡◌, Bool, List, ℕ}
use Rattle.model.specs.Listing.{State, Next, ended}
use Rattle.judge.specs.declared.Progress.{Progress}
use Rattle.judge.specs.declared.Finished.{Finished}
use Rattle.judge.specs.Standing.{Question, Written, Turn, ending_of}
use Rattle.expand.specs.declared.Query.{Query}
use Rattle.expand.specs.Expands.{Tables}

-- before step 3; `tables` says that the word handed in has each decision variable's best value, the lowest on a tie
pub record Steps (query : Query) (plan codes values queue store : List ℕ) (g : Progress) : Type 0 where
  pub question : Question query.weighed
  pub state : State
  pub asked : question.wanted ≡ query.wanted
  pub tables : Tables question.plant query plan
  pub turn : Turn question query.limit queue store codes values g state state.queue

-- the run has ended as the model's does
pub record FinishedAs {weighed : Bool} (q : Question weighed) (store codes values : List ℕ) (f : Finished) (n : Next) : Type 0 where
  pub state : State
  pub ends : n ≡ ended (ending_of f.ending) state
  pub written : Written q store codes values f.progress state

-- What a node's expansion is given, with the plant's tables, and what becomes of the progress where children are put. Assumes nothing: these are definitions.
use Rattle.std.specs.Prelude.{◌≡◌, Result, Ok, Err, List, ℕ, length}
use Rattle.std.specs.declared.ops.ControlFlow.TheVariants.{Continue, Break}
use Rattle.model.specs.Sheet.{Plant, edition_of}
use Rattle.model.specs.Tables.{clauses}
use Rattle.theory.specs.Plant.{Accepted}
use Rattle.theory.specs.Value.{PreferredValues}
use Rattle.plan.specs.Plans.{plan_words}
use Rattle.clauses.specs.Tables.{Prepared}
use Rattle.children.specs.declared.Node.{Node}
use Rattle.children.specs.declared.Full.{Full}
use Rattle.judge.specs.declared.Progress.{Progress}
use Rattle.judge.specs.declared.Ending.{Ending as Ended}
use Rattle.judge.specs.Standing.{Question, TabledBy, Removed, After}
use Rattle.expand.specs.declared.Query.{Query}

-- a plant's tables, with what is made of them once, the sets of clauses and the word that hands in each decision variable's best value, and room for the search
pub record Tables (p : Plant) (query : Query) (plan : List ℕ) : Type 0 where
  pub tabled : TabledBy p query.plant query.prices.now
  pub accepted : Accepted (edition_of query.weighed) p
  pub prepared : Prepared (clauses query.plant.counts.now query.plant.lits.now) query.plant.sat.now query.plant.uses.now
  pub planned : length plan ≡ plan_words
  pub preferred-is : PreferredValues query.weighed p query.preferred

-- before steps 4 to 7: a node has been removed
pub record Expands (query : Query) (plan codes values queue store : List ℕ) (g : Progress) (node : Node) : Type 0 where
  pub question : Question query.weighed
  pub tables : Tables question.plant query plan
  pub taken : Removed question query.limit queue store codes values g node

-- the same progress with so many entries in the queue
abbrev pub queuing : Progress → ℕ → Progress
queuing g n = record { queued = n; stored = g.stored; counts = g.counts }

-- `put`: what becomes of the progress
abbrev pub PutNext : Progress → Result ℕ Full → After → Type 0
PutNext g (Err full) n = n ≡ Break (record { ending = Ended.Full; progress = g })
PutNext g (Ok m) n = n ≡ Continue (queuing g m)

-- Request L2, the last state and the empty queue: the call as it was while step 3 asked for k before it looked at the queue, and how its answers and the present call's differ. Nothing else keeps the former step. Assumes nothing: these are definitions.
use Rattle.std.specs.Prelude.{◌≡◌, ◌⊎◌, Bool, true, false, List, [], ◌∷◌, ℕ, zero, suc, ◌/◌, ltb, length}
use Rattle.std.proofs.Math.Option.{none, some}
use Rattle.model.specs.Sheet.{Plant, Read, got, edition1, read_sheet, decision_sizes}
use Rattle.model.specs.Assignment.{Assignment, value_list}
use Rattle.model.specs.Order.{Order, order_of}
use Rattle.model.specs.Listing.{State, Ending, enough, all, Next, ended, more, checked, broken_off, check_offers, listed_one, expand, step, run, start, enough_steps}
use Rattle.model.specs.Calls.{by_host, by_author, refused, answered, ran, unfinished, Answer, Called, Buffers, first_given, host_grounds, offers_of, called_of, refusing, Exported, exported_of}

-- ---- the call as it was

module _ (p : Plant) (o : Order) (k entries places limit : ℕ) where
  -- step 3 as it was, further: if the queue is empty 'all', otherwise the node whose best state comes first is removed
  unfoldable pub former_remove : State → List Assignment → Next
  former_remove s [] = ended all s
  former_remove s (n ∷ rest) = expand p o k entries places limit s rest n

  -- step 3 as it was: if k are listed 'enough'
  unfoldable pub former_step : State → Next
  former_step s = elim (ltb (length s.listed) k) [ false ↦ ended enough s | true ↦ former_remove s s.queue ]

  -- the run of such steps
  unfoldable pub former_run : ℕ → State → Next
  former_run zero s = more s
  former_run (suc fuel) s = elim (former_step s) [ ended e t ↦ ended e t | more t ↦ former_run fuel t ]

-- the accepted call's run, from step 1 on
unfoldable pub former_run_of : Plant → ℕ → Buffers → ℕ → ℕ → Next
former_run_of p k b held limit =
    elim (check_offers p limit [] (offers_of held b.store) 0) [
      | checked survivors used ↦
          former_run p (order_of edition1 p) k (length b.queue / 2) (length b.store / 2) limit (enough_steps (decision_sizes p)) (start (decision_sizes p) survivors used)
      | broken_off survivors used ↦ ended Ending.spent (start (decision_sizes p) survivors used)
    ]

-- the call
unfoldable pub former_call : List ℕ → ℕ → Buffers → ℕ → ℕ → Bool → Called
former_call sheet k b held limit result_short =
    elim (first_given (host_grounds k b held result_short)) [
      | some n ↦ refusing b (by_host n)
      | none ↦ elim (read_sheet edition1 sheet) [
        | Read.refused n ↦ refusing b (by_author n)
        | got p end ↦ called_of (order_of edition1 p) b (former_run_of p k b held limit)
      ]
    ]

-- its export
unfoldable pub former_export : List ℕ → ℕ → Buffers → ℕ → ℕ → List ℕ → Exported
former_export sheet k b held limit result =
    let called : Called = former_call sheet k b held limit (ltb (length result) 6) in
    exported_of result called.after called.answer

-- ---- where the answers differ

-- listing the k-th state leaves the queue empty: so many steps from this state on one node is queued and one state fewer than k is listed, and the next step lists the node
pub record LeavesEmpty (p : Plant) (o : Order) (k entries places limit : ℕ) (from : State) : Type 0 where
  pub steps : ℕ
  pub before : State
  pub node : Assignment
  pub values : List ℕ
  pub trials : ℕ
  pub reached : run p o k entries places limit steps from ≡ more before
  pub only : before.queue ≡ node ∷ []
  pub fewer : suc (length before.listed) ≡ k
  pub lists : step p o k entries places limit before ≡ more (listed_one before [] (value_list node) values trials)

-- the same of a call: nothing is refused, and it holds of the run from where step 1 leaves it
pub record CallLeavesEmpty (sheet : List ℕ) (k : ℕ) (b : Buffers) (held limit : ℕ) (result_short : Bool) : Type 0 where
  pub plant : Plant
  pub end : ℕ
  pub survivors : List Assignment
  pub used : ℕ
  pub fit : first_given (host_grounds k b held result_short) ≡ none
  pub says : read_sheet edition1 sheet ≡ got plant end
  pub offers : check_offers plant limit [] (offers_of held b.store) 0 ≡ checked survivors used
  pub leaves : LeavesEmpty plant (order_of edition1 plant) k (length b.queue / 2) (length b.store / 2) limit (start (decision_sizes plant) survivors used)

-- ---- how they differ

-- a former ending and the present one: 'enough' became 'all' where the queue was left empty, and otherwise they are the same
abbrev pub EndingChange : Type 0 → Ending → Ending → Type 0
EndingChange Empty former present = (Empty × (former ≡ enough) × (present ≡ all)) ⊎ ((Empty → ⊥) × (present ≡ former))

-- a former answer and the present one: the same refusal, or a run with the same counts
abbrev pub AnswerChange : Type 0 → Answer → Answer → Type 0
AnswerChange Empty (refused r) present = (Empty → ⊥) × (present ≡ refused r)
AnswerChange Empty (answered (ran e c)) present = (f : Ending) × (present ≡ answered (ran f c)) × EndingChange Empty e f
AnswerChange Empty (answered unfinished) present = ⊥

-- a former call and the present one: the same in every lent word, the list among them
pub record CallChange (Empty : Type 0) (former present : Called) : Type 0 where
  pub answer : AnswerChange Empty former.answer present.answer
  pub after : present.after ≡ former.after
  pub struck : present.struck ≡ former.struck

-- the exports: the same but for the first result word, 1 or 2, where the queue was left empty
pub record ExportChange (Empty : Type 0) (former present : Exported) : Type 0 where
  pub returned : present.returned ≡ former.returned
  pub after : present.after ≡ former.after
  pub result : (Empty × (others : List ℕ) × (former.result ≡ 1 ∷ others) × (present.result ≡ 2 ∷ others)) ⊎ ((Empty → ⊥) × (present.result ≡ former.result))

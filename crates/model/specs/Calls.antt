-- Specification, "Who caused the refusal", "Exports to C" and the three calls whole: from every number and lent buffer before to the answer and every lent buffer after. Assumes nothing: these are definitions.
use Rattle.std.specs.Prelude.{Bool, true, false, not, ◌&&◌, ◌||◌, List, [], ◌∷◌, ◌++◌, map, ℕ, zero, suc, ◌-◌, ◌*◌, ◌/◌, ◌%◌, ltb, leb, eqb, length, replicate, take, drop}
use Rattle.std.proofs.Math.Option.{Option, none, some}
use Rattle.model.specs.Lists.{filled, in_turn}
use Rattle.model.specs.Sheet.{Plant, Read, got, Edition, edition1, edition2, read_sheet, read_either, decision_sizes}
use Rattle.model.specs.Assignment.{Assignment, mask_of, values_of, assignment_of, mask_fits, values_fit, code}
use Rattle.model.specs.Consistency.{Tested, consistent, inconsistent, test}
use Rattle.model.specs.Conflict.{Reduced, conflict, ReducedAlone, nothing, reduced, reduce_alone}
use Rattle.model.specs.Order.{Order, order_of, Entry}
use Rattle.model.specs.Listing.{State, Ending, enough, all, full, Next, ended, more, Offer, listing}

-- ---- refusals

-- who caused a refusal, and its number
pub data Refusal : Type 0 where
  by_host : ℕ → Refusal
  by_author : ℕ → Refusal

abbrev pub refusal_number : Refusal → ℕ
refusal_number (by_host n) = n
refusal_number (by_author n) = n

-- a ground for refusal: whether it is given, and its number
pub record Ground : Type 0 where
  pub given : Bool
  pub number : ℕ

-- the number of the first ground that is given
unfoldable pub first_given : List Ground → Option ℕ
first_given [] = none
first_given (g ∷ gs) = elim g.given [ true ↦ some g.number | false ↦ first_given gs ]

abbrev pub ground_if : Bool → ℕ → Ground
ground_if given number = record { given = given; number = number }

-- ---- the values shown

-- the bytes that show the values of a state: one for each variable that a plant can have
abbrev pub state_bytes : ℕ
state_bytes = 48

-- the values of all variables, one byte a variable, and zero beyond
unfoldable pub value_bytes : List ℕ → List ℕ
value_bytes f = f ++ replicate (state_bytes - length f) 0

-- a consistent test gives the value of every variable, the first complete success in trial order; any other answer gives zeros
unfoldable pub shown_by : Tested → List ℕ
shown_by (consistent f t) = value_bytes f
shown_by (inconsistent t) = replicate state_bytes 0
shown_by (Tested.spent t) = replicate state_bytes 0

-- ---- the test and the reduction on words

-- 14: a mask bit beyond D. 15: a value outside its domain or a nonzero unused nibble.
unfoldable pub word_grounds : List ℕ → ℕ → ℕ → List Ground
word_grounds domains mask values = ground_if (not (mask_fits domains mask)) 14 ∷ ground_if (not (values_fit domains mask values)) 15 ∷ []

-- a call on a sheet of either edition and two words: the sheet's refusal, then the words', then what the assignment answers
pub data Answered (A : Type 0) : Type 0 where
  refused : Refusal → Answered A
  answered : A → Answered A

unfoldable pub on_words : {A : Type 0} → List ℕ → ℕ → ℕ → (Plant → Assignment → A) → Answered A
on_words sheet mask values ask =
    elim (read_either sheet) [
      | Read.refused n ↦ refused (by_author n)
      | got p end ↦ elim (first_given (word_grounds (decision_sizes p) mask values)) [
        | some n ↦ refused (by_host n)
        | none ↦ answered (ask p (assignment_of (length p.costs) mask values))
      ]
    ]

-- the test call
unfoldable pub test_call : List ℕ → ℕ → ℕ → ℕ → Answered Tested
test_call sheet mask values limit = on_words sheet mask values (λ p a. test p limit a 0)

-- the reduce call; a conflict is answered by its two words
unfoldable pub reduce_call : List ℕ → ℕ → ℕ → ℕ → Answered ReducedAlone
reduce_call sheet mask values limit = on_words sheet mask values (λ p a. reduce_alone p limit a)

-- ---- the listing

-- the lent buffers of a listing, as words, and the values as bytes; of edition 2's call products stand where costs do
pub record Buffers : Type 0 where
  pub codes : List ℕ
  pub costs : List ℕ
  pub values : List ℕ
  pub queue : List ℕ
  pub store : List ℕ

-- the counts of a run
pub record Counts : Type 0 where
  pub listed : ℕ
  pub tested : ℕ
  pub learned : ℕ
  pub unkept : ℕ
  pub trials : ℕ

-- a run with its ending; that none is left unfinished is a theorem
pub data Run : Type 0 where
  ran : Ending → Counts → Run
  unfinished : Run

-- an answer is either a refusal, which says whose, or a run with its ending
abbrev pub Answer : Type 0
Answer = Answered Run

-- a call's answer, the lent buffers after it, and whether the limit struck inside a reduction
pub record Called : Type 0 where
  pub answer : Answer
  pub after : Buffers
  pub struck : Bool

abbrev pub odd : ℕ → Bool
odd n = eqb (n % 2) 1

-- the most states that a call lists: k is 1 to this many
abbrev pub most_listed : ℕ
most_listed = 4096

-- the most words of the queue, and of the store
abbrev pub most_words : ℕ
most_words = 8192

-- the host's refusals before the sheet, in this order, 19 right after 2; `result_short`: in the export, fewer than six result words
unfoldable pub host_grounds : ℕ → Buffers → ℕ → Bool → List Ground
host_grounds k b held result_short =
    ground_if (not (leb 1 k && leb k most_listed)) 1
    ∷ ground_if (ltb (length b.codes) k || ltb (length b.costs) k || result_short) 2
    ∷ ground_if (ltb (length b.values) (state_bytes * k)) 19
    ∷ ground_if (odd (length b.queue) || ltb (length b.queue) 2 || ltb most_words (length b.queue)) 3
    ∷ ground_if (odd (length b.store) || ltb most_words (length b.store) || ltb (length b.store / 2) held) 4
    ∷ []

-- the first n entries of a store's words
unfoldable pub offers_of : ℕ → List ℕ → List Offer
offers_of zero words = []
offers_of (suc n) [] = []
offers_of (suc n) (m ∷ []) = []
offers_of (suc n) (m ∷ v ∷ words) = record { mask = m; values = v } ∷ offers_of n words

-- the two words of each conflict in turn
unfoldable pub entry_words : List Assignment → List ℕ
entry_words [] = []
entry_words (c ∷ cs) = mask_of c ∷ values_of c ∷ entry_words cs

-- after every ending the queue is zero; the store holds survivors checked so far, then learned, then zeros; codes, costs and values beyond listed are unchanged
unfoldable pub buffers_after : Order → Buffers → State → Buffers
buffers_after o b s = record {
  codes = filled (map code s.listed) b.codes;
  costs = filled (map o.figure s.listed) b.costs;
  values = filled (in_turn value_bytes s.shown) b.values;
  queue = replicate (length b.queue) 0;
  store = filled (entry_words s.store) (replicate (length b.store) 0);
}

-- codes with their costs, place by place
abbrev pub entries_of : List ℕ → List ℕ → List Entry
entries_of [] ds = []
entries_of (c ∷ cs) [] = []
entries_of (c ∷ cs) (d ∷ ds) = record { code = c; figure = d } ∷ entries_of cs ds

-- a run's list: its first codes with their costs, as many as listed says
abbrev pub run_list : ℕ → Buffers → List Entry
run_list listed b = entries_of (take listed b.codes) (take listed b.costs)

-- the bytes that show the values of the state at a place of the list
abbrev pub state_values : ℕ → Buffers → List ℕ
state_values i b = take state_bytes (drop (state_bytes * i) b.values)

abbrev pub counts_of : State → Counts
counts_of s = record { listed = length s.listed; tested = s.tested; learned = s.learned; unkept = s.unkept; trials = s.trials }

unfoldable pub called_of : Order → Buffers → Next → Called
called_of o b (ended e s) = record { answer = answered (ran e (counts_of s)); after = buffers_after o b s; struck = s.struck }
called_of o b (more s) = record { answer = answered unfinished; after = b; struck = false }

-- the run of an accepted call
unfoldable pub run_of : Plant → Order → ℕ → Buffers → ℕ → ℕ → Next
run_of p o k b held limit = listing p o k (length b.queue / 2) (length b.store / 2) (offers_of held b.store) limit

-- a refusal changes no lent buffer
abbrev pub refusing : Buffers → Refusal → Called
refusing b r = record { answer = refused r; after = b; struck = false }

-- the listing call that takes this edition, with `result_short` as in the host's refusals
unfoldable pub listing_with : Edition → List ℕ → ℕ → Buffers → ℕ → ℕ → Bool → Called
listing_with e sheet k b held limit result_short =
    elim (first_given (host_grounds k b held result_short)) [
      | some n ↦ refusing b (by_host n)
      | none ↦ elim (read_sheet e sheet) [
        | Read.refused n ↦ refusing b (by_author n)
        | got p end ↦ called_of (order_of e p) b (run_of p (order_of e p) k b held limit)
      ]
    ]

-- the listing call
unfoldable pub listing_call : List ℕ → ℕ → Buffers → ℕ → ℕ → Called
listing_call sheet k b held limit = listing_with edition1 sheet k b held limit false

-- the listing call that takes edition 2: products stand in the buffer for costs
unfoldable pub weights_call : List ℕ → ℕ → Buffers → ℕ → ℕ → Called
weights_call sheet k b held limit = listing_with edition2 sheet k b held limit false

-- ---- the export to C

-- the number of an ending in the first result word
abbrev pub ending_number : Ending → ℕ
ending_number enough = 1
ending_number all = 2
ending_number full = 3
ending_number Ending.spent = 4

-- the six result words of a run
abbrev pub result_words : Ending → Counts → List ℕ
result_words e c = ending_number e ∷ c.listed ∷ c.tested ∷ c.learned ∷ c.unkept ∷ c.trials ∷ []

-- what the export returns, and the result words after it: words beyond the six are unchanged
pub record Exported : Type 0 where
  pub returned : ℕ
  pub after : Buffers
  pub result : List ℕ

unfoldable pub exported_of : List ℕ → Buffers → Answer → Exported
exported_of result b (refused r) = record { returned = refusal_number r; after = b; result = result }
exported_of result b (answered (ran e c)) = record { returned = 0; after = b; result = filled (result_words e c) result }
exported_of result b (answered unfinished) = record { returned = 0; after = b; result = result }

-- the export of the listing call that takes this edition
unfoldable pub export_with : Edition → List ℕ → ℕ → Buffers → ℕ → ℕ → List ℕ → Exported
export_with e sheet k b held limit result =
    let called : Called = listing_with e sheet k b held limit (ltb (length result) 6) in
    exported_of result called.after called.answer

unfoldable pub export_call : List ℕ → ℕ → Buffers → ℕ → ℕ → List ℕ → Exported
export_call sheet k b held limit result = export_with edition1 sheet k b held limit result

unfoldable pub weights_export : List ℕ → ℕ → Buffers → ℕ → ℕ → List ℕ → Exported
weights_export sheet k b held limit result = export_with edition2 sheet k b held limit result

-- ---- the exports of the test and the reduction

-- the two result words of a test: how it ended, and its trials
abbrev pub test_words : Tested → List ℕ
test_words (consistent f t) = 1 ∷ t ∷ []
test_words (inconsistent t) = 2 ∷ t ∷ []
test_words (Tested.spent t) = 3 ∷ t ∷ []

-- what the export of the test returns, and the bytes shown and the result words after it: words beyond the two are unchanged
abbrev pub test_written : List ℕ → List ℕ → Answered Tested → ℕ × List ℕ × List ℕ
test_written shown result (refused r) = (refusal_number r, shown, result)
test_written shown result (answered e) = (0, shown_by e, filled (test_words e) result)

-- the export of the test, to which all bytes are lent that it shows; 2: fewer than two result words
unfoldable pub test_export : List ℕ → ℕ → ℕ → ℕ → List ℕ → List ℕ → ℕ × List ℕ × List ℕ
test_export sheet mask values limit shown result =
    elim (ltb (length result) 2) [
      | true ↦ (2, shown, result)
      | false ↦ test_written shown result (test_call sheet mask values limit)
    ]

-- the two result words of a reduction: how it ended, and its trials
abbrev pub reduce_words : ReducedAlone → List ℕ
reduce_words (nothing t) = 1 ∷ t ∷ []
reduce_words (reduced (conflict c t)) = 2 ∷ t ∷ []
reduce_words (reduced (Reduced.spent t)) = 3 ∷ t ∷ []

-- the two words of the conflict, where one was found
abbrev pub conflict_words : ReducedAlone → List ℕ
conflict_words (nothing t) = []
conflict_words (reduced (conflict c t)) = entry_words (c ∷ [])
conflict_words (reduced (Reduced.spent t)) = []

-- what the export of the reduction returns, and the words of the conflict and of the result after it: words beyond the two of each are unchanged, and the conflict's all where none was found
abbrev pub reduce_written : List ℕ → List ℕ → Answered ReducedAlone → ℕ × List ℕ × List ℕ
reduce_written found result (refused r) = (refusal_number r, found, result)
reduce_written found result (answered e) = (0, filled (conflict_words e) found, filled (reduce_words e) result)

-- the export of the reduction; 2: fewer than two words for the conflict or for the result
unfoldable pub reduce_export : List ℕ → ℕ → ℕ → ℕ → List ℕ → List ℕ → ℕ × List ℕ × List ℕ
reduce_export sheet mask values limit found result =
    elim (ltb (length found) 2 || ltb (length result) 2) [
      | true ↦ (2, found, result)
      | false ↦ reduce_written found result (reduce_call sheet mask values limit)
    ]

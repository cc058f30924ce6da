-- Specification, "Small plant": P1 to P11, proved together as one table from the sheet's bytes and the settings to the answer. Assumes nothing.
use Rattle.std.specs.Prelude.{◌≡◌, refl, Bool, true, false, List, [], ◌∷◌, ◌++◌, map, ℕ, ◌*◌, ◌-◌, ◌/◌, length, replicate}
use Rattle.model.specs.Lists.{in_turn, place, place_all}
use Rattle.model.specs.Digits.{number, digits}
use Rattle.model.specs.Sheet.{bit_at, bits_at, then, many, field, edition1, edition2, decisions_allowed, read_figure, read_decision, read_state, read_literal, read_clause, read_filler, read_end, read_body, read_sheet, read_either}
use Rattle.model.specs.Assignment.{assignment_of, mask_fits, values_fit, well_formed}
use Rattle.model.specs.Consistency.{holds_at, literal_fails, clause_false, any_false, or_else, try_values, explore, test}
use Rattle.model.specs.Conflict.{reduce_from, reduce}
use Rattle.model.specs.Order.{before, order_of}
use Rattle.model.specs.Listing.{Ending, enough, all, full, check_offers, put_children, learn, judge, expand, remove, step, run, start, enough_steps, listing}
use Rattle.model.specs.Calls.{Refusal, by_author, first_given, refused, answered, Buffers, Counts, ran, Called, host_grounds, offers_of, state_bytes, value_bytes, entry_words, buffers_after, called_of, run_of, listing_with, listing_call}

-- the settings of a listing: the lengths of the lent buffers in words, the words offered at the store's start, and the numbers
pub record Settings : Type 0 where
  pub sheet : List ℕ
  pub k : ℕ
  pub codes : ℕ
  pub costs : ℕ
  pub values : ℕ
  pub queue : ℕ
  pub store : ℕ
  pub offered : List ℕ
  pub held : ℕ
  pub limit : ℕ

-- what a call is to answer: a refusal, which says whose; or a run by its ending, the codes and costs listed, the words of the
-- conflicts stored after it, tested, learned, unkept, trials; `strikes`: 'spent' inside a reduction; both show every hidden
-- variable at 0, and `shows` says the values of all variables of each state listed, after the costs
pub data Wanted : Type 0 where
  refusal : Refusal → Wanted
  lists : Ending → List ℕ → List ℕ → List ℕ → ℕ → ℕ → ℕ → ℕ → Wanted
  shows : Ending → List ℕ → List ℕ → List (List ℕ) → List ℕ → ℕ → ℕ → ℕ → ℕ → Wanted
  strikes : List ℕ → List ℕ → List ℕ → ℕ → ℕ → ℕ → ℕ → Wanted

-- a row of a table
pub record Row : Type 0 where
  pub given : Settings
  pub wanted : Wanted

-- binds more tightly than ∷
infix 70 ◌gives◌
abbrev pub ◌gives◌ : Settings → Wanted → Row
s gives w = record { given = s; wanted = w }

-- the buffers before the call hold a 7 wherever nothing is offered
unfoldable pub lent : Settings → Buffers
lent s = record {
  codes = replicate s.codes 7;
  costs = replicate s.costs 7;
  values = replicate s.values 7;
  queue = replicate s.queue 7;
  store = s.offered ++ replicate (s.store - length s.offered) 7;
}

-- whoever unfolds this unfolds every definition of the listing
unfoldable pub call : Settings → Called
unfolding lent
    number digits bit_at bits_at then many field edition1 edition2 decisions_allowed read_figure read_decision read_state read_literal read_clause read_filler read_end read_body read_sheet read_either
    assignment_of mask_fits values_fit well_formed holds_at literal_fails clause_false any_false or_else try_values explore test reduce_from reduce before order_of
    check_offers place place_all put_children learn judge expand remove step run start enough_steps listing
    first_given host_grounds offers_of value_bytes entry_words buffers_after called_of run_of listing_with listing_call
call s = listing_call s.sheet s.k (lent s) s.held s.limit

-- the values' bytes of a state with this code whose hidden variables are 0: the digits of the code, and zeros
unfoldable pub hidden_zero : ℕ → List ℕ
hidden_zero c = digits 16 16 c ++ replicate 32 0

-- these values of all variables, and zeros up to 48 bytes
unfoldable pub padded : List ℕ → List ℕ
padded f = f ++ replicate (48 - length f) 0

-- a run's answer with every lent word after it: codes, costs and values beyond those listed are as lent, the queue is zero, and so is the store behind the conflicts
unfoldable pub ran_with : Settings → Ending → List ℕ → List ℕ → List ℕ → List ℕ → Counts → Bool → Called
ran_with s e codes costs values conflicts counts struck = record {
  answer = answered (ran e counts);
  after = record {
    codes = codes ++ replicate (s.codes - length codes) 7;
    costs = costs ++ replicate (s.costs - length costs) 7;
    values = values ++ replicate (s.values - length values) 7;
    queue = replicate s.queue 0;
    store = conflicts ++ replicate (s.store - length conflicts) 0;
  };
  struck = struck;
}

abbrev pub counts_for : List ℕ → ℕ → ℕ → ℕ → ℕ → Counts
counts_for codes tested learned unkept trials = record { listed = length codes; tested = tested; learned = learned; unkept = unkept; trials = trials }

-- the whole of a wanted answer; after a refusal every lent word is as it was
unfoldable pub whole : Settings → Wanted → Called
unfolding ran_with hidden_zero padded
whole s (refusal r) = record { answer = refused r; after = lent s; struck = false }
whole s (lists e codes costs conflicts tested learned unkept trials) = ran_with s e codes costs (in_turn hidden_zero codes) conflicts (counts_for codes tested learned unkept trials) false
whole s (shows e codes costs values conflicts tested learned unkept trials) = ran_with s e codes costs (in_turn padded values) conflicts (counts_for codes tested learned unkept trials) false
whole s (strikes codes costs conflicts tested learned unkept trials) = ran_with s Ending.spent codes costs (in_turn hidden_zero codes) conflicts (counts_for codes tested learned unkept trials) true

-- what the calls of a table's rows answer and leave in the lent buffers, and what they are to
unfoldable pub answers : List Row → List Called
unfolding call
answers rows = map (λ r. call r.given) rows

unfoldable pub expected : List Row → List Called
unfolding whole lent ran_with hidden_zero padded digits
expected rows = map (λ r. whole r.given r.wanted) rows

-- a queue and a store of so many entries, with all offered words held, codes and costs of k words, and values of k states
unfoldable pub plain : List ℕ → ℕ → ℕ → ℕ → List ℕ → ℕ → Settings
plain sheet k entries places offered limit = record {
  sheet = sheet;
  k = k;
  codes = k;
  costs = k;
  values = state_bytes * k;
  queue = 2 * entries;
  store = 2 * places;
  offered = offered;
  held = length offered / 2;
  limit = limit;
}

-- ---- the small plant

-- the bytes before and after the two that the rows change: the counts stand in bytes 1 to 3
unfoldable pub tail : List ℕ
tail = 0x80 ∷ 0x00 ∷ 0x00 ∷ 0x01 ∷ 0x88 ∷ 0x00 ∷ 0x00 ∷ 0x00 ∷ 0x18 ∷ 0x98 ∷ 0x10 ∷ 0x06 ∷ 0x01 ∷ 0x04 ∷ 0x42 ∷ []

unfoldable pub small : List ℕ
small = 0x01 ∷ 0x10 ∷ 0x20 ∷ 0x10 ∷ tail ++ (0x00 ∷ [])

-- an empty clause added
unfoldable pub empty_clause : List ℕ
empty_clause = 0x01 ∷ 0x10 ∷ 0x20 ∷ 0x18 ∷ tail ++ (0x00 ∷ 0x00 ∷ [])

-- other counts of decision variables
unfoldable pub no_decisions : List ℕ
no_decisions = 0x01 ∷ 0x00 ∷ 0x20 ∷ 0x10 ∷ tail ++ (0x00 ∷ [])

unfoldable pub seventeen : List ℕ
seventeen = 0x01 ∷ 0x88 ∷ 0x20 ∷ 0x10 ∷ tail ++ (0x00 ∷ [])

-- a filler bit set and a byte appended
unfoldable pub damaged : List ℕ
damaged = 0x01 ∷ 0x10 ∷ 0x20 ∷ 0x10 ∷ tail ++ (0x01 ∷ 0x00 ∷ [])

-- the masks of both variables, and of the selector alone
abbrev pub both : ℕ
both = 0xc000000000000000

abbrev pub selector : ℕ
selector = 0x8000000000000000

unfoldable pub three : List ℕ
three = 0x0100000000000000 ∷ 0x1000000000000000 ∷ 0x1100000000000000 ∷ []

-- what P1 and others like it answer
unfoldable pub as_p1 : Wanted
as_p1 = lists all three (3 ∷ 3 ∷ 6 ∷ []) (both ∷ 0 ∷ []) 4 1 0 15

unfoldable pub table : List Row
table =
    -- P1
    plain small 16 4096 64 [] 1000000 gives as_p1
    -- P2: k 1
    ∷ plain small 1 4096 64 [] 1000000 gives lists enough (0x0100000000000000 ∷ []) (3 ∷ []) (both ∷ 0 ∷ []) 2 1 0 13
    -- P3: k 3
    ∷ plain small 3 4096 64 [] 1000000 gives as_p1
    -- P4: a queue of 2 entries, and of 3
    ∷ plain small 16 2 64 [] 1000000 gives lists full [] [] [] 0 0 0 0
    ∷ plain small 16 3 64 [] 1000000 gives as_p1
    -- P5: limits 14, 15 and 5
    ∷ plain small 16 4096 64 [] 14 gives lists Ending.spent (0x0100000000000000 ∷ 0x1000000000000000 ∷ []) (3 ∷ 3 ∷ []) (both ∷ 0 ∷ []) 3 1 0 14
    ∷ plain small 16 4096 64 [] 15 gives as_p1
    ∷ plain small 16 4096 64 [] 5 gives strikes [] [] [] 1 0 0 5
    -- P6: the store offers {selector=0, clutch=0}
    ∷ plain small 16 4096 64 (both ∷ 0 ∷ []) 1000000 gives lists all three (3 ∷ 3 ∷ 6 ∷ []) (both ∷ 0 ∷ []) 3 0 0 5
    -- P7: it offers {selector=1}
    ∷ plain small 16 4096 64 (selector ∷ 0x1000000000000000 ∷ []) 1000000 gives lists all three (3 ∷ 3 ∷ 6 ∷ []) (both ∷ 0 ∷ []) 4 1 0 17
    -- P8: an empty clause added; the empty assignment is learned
    ∷ plain empty_clause 16 4096 64 [] 1000000 gives lists all [] [] (0 ∷ 0 ∷ []) 1 1 0 0
    -- P9: the same with a store of 0 words
    ∷ plain empty_clause 16 4096 0 [] 1000000 gives lists all [] [] [] 4 0 4 0
    -- P10: D 0, and 17
    ∷ plain no_decisions 16 4096 64 [] 1000000 gives refusal (by_author 7)
    ∷ plain seventeen 16 4096 64 [] 1000000 gives refusal (by_author 7)
    -- P11: a filler bit set and a byte appended
    ∷ plain damaged 16 4096 64 [] 1000000 gives refusal (by_author 12)
    ∷ []

pub P1_to_P11 : answers table ≡ expected table
unfolding table three as_p1 answers expected plain tail small empty_clause no_decisions seventeen damaged
P1_to_P11 = refl

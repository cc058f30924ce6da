-- Rows for edition 2: the refusals of its listing call in their order, which call takes which edition, and the test and the reduction on its sheets. Assumes nothing.
use Rattle.std.specs.Prelude.{◌≡◌, refl, List, [], ◌∷◌, ◌++◌, map, ℕ, take, replicate}
use Rattle.std.proofs.Math.Option.{some}
use Rattle.model.specs.Lists.{values_from}
use Rattle.model.specs.Consistency.{Tested, consistent, inconsistent}
use Rattle.model.specs.Conflict.{Reduced, conflict, ReducedAlone, nothing, reduced, reduce_alone}
use Rattle.model.specs.Calls.{by_host, by_author, Answered, refused, answered, word_grounds, on_words, test_call, reduce_call}
use Rattle.model.specs.Tables.{Tables}
use Rattle.model.specs.TableCalls.{read_tables}
use Rattle.model.proofs.Examples.{Row, ◌gives◌, refusal, answers, expected, plain, tail, small, both, selector}
use Rattle.model.proofs.Refusals.{other_edition, lengths, values_of}
use Rattle.model.proofs.Weights.{weight_call, weight_answers, weight_tail, small_weights, hidden_two, eight_parts}

-- ---- sheets

-- the small plant with weights up to its clauses: the selector's first weight is zero; its last; the clutch's last
unfoldable pub first_zero : List ℕ
first_zero = 0x02 ∷ 0x10 ∷ 0x20 ∷ 0x10 ∷ 0x80 ∷ 0x14 ∷ 0x0d ∷ 0xa1 ∷ 0xe0 ∷ weight_tail

unfoldable pub selectors_last_zero : List ℕ
selectors_last_zero = 0x02 ∷ 0x10 ∷ 0x20 ∷ 0x10 ∷ 0xe4 ∷ 0x00 ∷ 0x0d ∷ 0xa1 ∷ 0xe0 ∷ weight_tail

unfoldable pub up_to_zero : List ℕ
up_to_zero = 0x02 ∷ 0x10 ∷ 0x20 ∷ 0x10 ∷ 0xe4 ∷ 0x14 ∷ 0x0d ∷ 0xa0 ∷ 0x00 ∷ []

unfoldable pub last_zero : List ℕ
last_zero = up_to_zero ++ weight_tail

-- the same with an absent variable, with a value outside its domain, with a filler bit set, and with a byte more
unfoldable pub zero_and_absent : List ℕ
zero_and_absent = up_to_zero ++ (0x98 ∷ 0x70 ∷ 0x06 ∷ 0x01 ∷ 0x04 ∷ 0x42 ∷ 0x00 ∷ [])

unfoldable pub zero_and_outside : List ℕ
zero_and_outside = up_to_zero ++ (0x98 ∷ 0x12 ∷ 0x06 ∷ 0x01 ∷ 0x04 ∷ 0x42 ∷ 0x00 ∷ [])

unfoldable pub zero_and_filler : List ℕ
zero_and_filler = up_to_zero ++ (0x98 ∷ 0x10 ∷ 0x06 ∷ 0x01 ∷ 0x04 ∷ 0x42 ∷ 0x01 ∷ [])

unfoldable pub zero_and_more : List ℕ
zero_and_more = last_zero ++ (0x00 ∷ [])

-- nine decision variables of one value with weight 1
unfoldable pub nine_parts : List ℕ
nine_parts = 0x02 ∷ 0x48 ∷ 0x00 ∷ 0x00 ∷ 0x00 ∷ 0x80 ∷ 0x08 ∷ 0x00 ∷ 0x80 ∷ 0x08 ∷ 0x00 ∷ 0x80 ∷ 0x08 ∷ 0x00 ∷ 0x80 ∷ 0x08 ∷ 0x00 ∷ 0x80 ∷ []

-- ---- the listing call of edition 2

unfoldable pub weight_authors : List Row
weight_authors =
    -- the sheet of edition 1, of edition 3, and its first byte alone
    plain small 16 8 4 [] 1000 gives refusal (by_author 6)
    ∷ plain other_edition 16 8 4 [] 1000 gives refusal (by_author 6)
    ∷ plain (0x01 ∷ []) 16 8 4 [] 1000 gives refusal (by_author 6)
    -- D 0, 9 and 16
    ∷ plain (0x02 ∷ 0x00 ∷ 0x00 ∷ 0x00 ∷ []) 16 8 4 [] 1000 gives refusal (by_author 7)
    ∷ plain nine_parts 16 8 4 [] 1000 gives refusal (by_author 7)
    ∷ plain (0x02 ∷ 0x80 ∷ []) 16 8 4 [] 1000 gives refusal (by_author 7)
    -- D 8 is allowed: what follows runs past the end
    ∷ plain (0x02 ∷ 0x40 ∷ 0x00 ∷ 0x00 ∷ []) 16 8 4 [] 1000 gives refusal (by_author 5)
    -- a weight of zero: a variable's first, its last, and the last of all
    ∷ plain first_zero 16 8 4 [] 1000 gives refusal (by_author 20)
    ∷ plain selectors_last_zero 16 8 4 [] 1000 gives refusal (by_author 20)
    ∷ plain last_zero 16 8 4 [] 1000 gives refusal (by_author 20)
    -- one that the sheet's end cuts off: 5; whole, also where the next runs past the end: 20
    ∷ plain (0x02 ∷ 0x08 ∷ 0x00 ∷ 0x00 ∷ 0x80 ∷ []) 16 8 4 [] 1000 gives refusal (by_author 5)
    ∷ plain (0x02 ∷ 0x08 ∷ 0x00 ∷ 0x00 ∷ 0x80 ∷ 0x00 ∷ []) 16 8 4 [] 1000 gives refusal (by_author 20)
    ∷ plain (take 8 up_to_zero) 16 8 4 [] 1000 gives refusal (by_author 5)
    ∷ plain up_to_zero 16 8 4 [] 1000 gives refusal (by_author 20)
    -- before it S 33 and C 513, which are read earlier
    ∷ plain (0x02 ∷ 0x0c ∷ 0x20 ∷ 0x00 ∷ 0x00 ∷ 0x00 ∷ []) 16 8 4 [] 1000 gives refusal (by_author 8)
    ∷ plain (0x02 ∷ 0x08 ∷ 0x10 ∷ 0x08 ∷ 0x00 ∷ 0x00 ∷ []) 16 8 4 [] 1000 gives refusal (by_author 9)
    -- after it a literal's variable and value, the filler and a byte more, which are read later
    ∷ plain zero_and_absent 16 8 4 [] 1000 gives refusal (by_author 20)
    ∷ plain zero_and_outside 16 8 4 [] 1000 gives refusal (by_author 20)
    ∷ plain zero_and_filler 16 8 4 [] 1000 gives refusal (by_author 20)
    ∷ plain zero_and_more 16 8 4 [] 1000 gives refusal (by_author 20)
    ∷ []

pub weight_authors-are : weight_answers weight_authors ≡ expected weight_authors
unfolding weight_authors weight_answers expected plain tail small other_edition weight_tail nine_parts first_zero selectors_last_zero up_to_zero last_zero zero_and_absent zero_and_outside zero_and_filler zero_and_more
weight_authors-are = refl

-- the small plant's first n bytes, for each n below all of them: 5
unfoldable pub weight_cut : ℕ → Row
weight_cut n = plain (take n small_weights) 16 8 4 [] 1000 gives refusal (by_author 5)

unfoldable pub weight_cuts : List Row
weight_cuts = map weight_cut (values_from 0 16)

pub weight_cuts-are : weight_answers weight_cuts ≡ expected weight_cuts
unfolding weight_cuts weight_cut weight_answers expected plain weight_tail small_weights
weight_cuts-are = refl

-- the host's come before the sheet's: k; codes and costs; the values; the queue; the store
unfoldable pub weight_hosts : List Row
weight_hosts =
    values_of 0 (lengths last_zero 0 0 0 7 7 9) gives refusal (by_host 1)
    ∷ lengths last_zero 4097 4097 4097 8 8 0 gives refusal (by_host 1)
    ∷ values_of 767 (lengths last_zero 16 15 16 7 7 9) gives refusal (by_host 2)
    ∷ lengths last_zero 16 16 15 8 8 0 gives refusal (by_host 2)
    ∷ values_of 767 (lengths last_zero 16 16 16 7 7 9) gives refusal (by_host 19)
    ∷ lengths last_zero 16 16 16 7 7 9 gives refusal (by_host 3)
    ∷ lengths last_zero 16 16 16 8 8 5 gives refusal (by_host 4)
    ∷ lengths last_zero 16 16 16 8 8 4 gives refusal (by_author 20)
    ∷ []

pub weight_hosts-are : weight_answers weight_hosts ≡ expected weight_hosts
unfolding weight_hosts weight_answers expected lengths values_of weight_tail up_to_zero last_zero
weight_hosts-are = refl

-- ---- the listing call of edition 1

-- sheets of edition 2: right, with a weight of zero, with nine decision variables
unfoldable pub other_sheets : List Row
other_sheets =
    plain small_weights 16 8 4 [] 1000 gives refusal (by_author 6)
    ∷ plain last_zero 16 8 4 [] 1000 gives refusal (by_author 6)
    ∷ plain nine_parts 16 8 4 [] 1000 gives refusal (by_author 6)
    ∷ []

pub other_sheets-are : answers other_sheets ≡ expected other_sheets
unfolding other_sheets answers expected plain weight_tail small_weights up_to_zero last_zero nine_parts
other_sheets-are = refl

-- the tables of edition 1 are not read from them either
unfoldable pub tables_read : Answered Tables
unfolding weight_call read_tables
tables_read = read_tables small_weights

pub tables-refused : tables_read ≡ refused (by_author 6)
unfolding tables_read weight_tail small_weights
tables-refused = refl

-- ---- the test and the reduction

unfoldable pub weight_tests : List (Answered Tested)
unfolding weight_call
weight_tests =
    -- selector and clutch both 0; selector 1; the limit; a hidden variable that is 2; eight variables
    test_call small_weights both 0 1000
    ∷ test_call small_weights selector 0x1000000000000000 1000
    ∷ test_call small_weights both 0 1
    ∷ test_call hidden_two 0 0 1000
    ∷ test_call eight_parts 0xff00000000000000 0 1000
    -- the words' refusals: the first mask bit beyond D; a value outside its domain
    ∷ test_call small_weights 0x2000000000000000 1 1000
    ∷ test_call small_weights selector 0x2000000000000000 1000
    -- the sheet's, before the words': a weight of zero, nine decision variables, edition 3, the sheet's first byte alone, an empty sheet
    ∷ test_call last_zero 0x2000000000000000 1 1000
    ∷ test_call nine_parts 0 0 1000
    ∷ test_call other_edition 0 0 1000
    ∷ test_call (0x02 ∷ []) 0 0 1000
    ∷ test_call [] 0 0 1000
    ∷ []

pub weight_tests-are : weight_tests ≡
    answered (inconsistent 2)
    ∷ answered (consistent (1 ∷ 0 ∷ 0 ∷ []) 2)
    ∷ answered (Tested.spent 1)
    ∷ answered (consistent (0 ∷ 2 ∷ []) 4)
    ∷ answered (consistent (replicate 8 0) 0)
    ∷ refused (by_host 14)
    ∷ refused (by_host 15)
    ∷ refused (by_author 20)
    ∷ refused (by_author 7)
    ∷ refused (by_author 6)
    ∷ refused (by_author 5)
    ∷ refused (by_author 5)
    ∷ []
unfolding weight_tests weight_call tail other_edition weight_tail small_weights up_to_zero last_zero nine_parts hidden_two eight_parts test_call on_words word_grounds
weight_tests-are = refl

unfoldable pub weight_reductions : List (Answered ReducedAlone)
unfolding weight_call
weight_reductions =
    -- the whole is minimal; it is consistent; the limit
    reduce_call small_weights both 0 1000
    ∷ reduce_call small_weights both 0x1000000000000000 1000
    ∷ reduce_call small_weights both 0 4
    -- refusals
    ∷ reduce_call small_weights 0x2000000000000000 1 1000
    ∷ reduce_call small_weights selector 0x2000000000000000 1000
    ∷ reduce_call last_zero 0x2000000000000000 1 1000
    ∷ reduce_call nine_parts 0 0 1000
    ∷ reduce_call other_edition 0 0 1000
    ∷ reduce_call [] 0 0 1000
    ∷ []

pub weight_reductions-are : weight_reductions ≡
    answered (reduced (conflict (some 0 ∷ some 0 ∷ []) 12))
    ∷ answered (nothing 1)
    ∷ answered (reduced (Reduced.spent 4))
    ∷ refused (by_host 14)
    ∷ refused (by_host 15)
    ∷ refused (by_author 20)
    ∷ refused (by_author 7)
    ∷ refused (by_author 6)
    ∷ refused (by_author 5)
    ∷ []
unfolding weight_reductions weight_call tail other_edition weight_tail small_weights up_to_zero last_zero nine_parts reduce_call on_words word_grounds reduce_alone
weight_reductions-are = refl

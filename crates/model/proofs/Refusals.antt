-- Rows for refusals: each ground of its own, whose it is, which comes first, and that every lent word is as it was. Assumes nothing.
use Rattle.std.specs.Prelude.{◌≡◌, refl, List, [], ◌∷◌, ◌++◌, map, ℕ, ◌*◌, take}
use Rattle.model.specs.Lists.{values_from}
use Rattle.model.specs.Calls.{by_host, by_author, state_bytes}
use Rattle.model.proofs.Examples.{Settings, Row, ◌gives◌, refusal, answers, expected, plain, tail, small, damaged, seventeen, three, as_p1}

-- ---- sheets

-- the small plant with an absent variable, with a value outside its domain, with a byte more, and of another edition
unfoldable pub absent_variable : List ℕ
absent_variable = 0x01 ∷ 0x10 ∷ 0x20 ∷ 0x10 ∷ 0x80 ∷ 0x00 ∷ 0x00 ∷ 0x01 ∷ 0x88 ∷ 0x00 ∷ 0x00 ∷ 0x00 ∷ 0x18 ∷ 0x98 ∷ 0x10 ∷ 0x06 ∷ 0x01 ∷ 0x84 ∷ 0x42 ∷ 0x00 ∷ []

unfoldable pub value_outside : List ℕ
value_outside = 0x01 ∷ 0x10 ∷ 0x20 ∷ 0x10 ∷ 0x80 ∷ 0x00 ∷ 0x00 ∷ 0x01 ∷ 0x88 ∷ 0x00 ∷ 0x00 ∷ 0x00 ∷ 0x18 ∷ 0x98 ∷ 0x12 ∷ 0x06 ∷ 0x01 ∷ 0x04 ∷ 0x42 ∷ 0x00 ∷ []

unfoldable pub longer : List ℕ
longer = small ++ (0x00 ∷ [])

unfoldable pub other_edition : List ℕ
other_edition = 0x03 ∷ 0x10 ∷ 0x20 ∷ 0x10 ∷ tail ++ (0x00 ∷ [])

-- the edition is wrong, and 17 decision variables
unfoldable pub other_edition_and17 : List ℕ
other_edition_and17 = 0x03 ∷ 0x88 ∷ 0x20 ∷ 0x10 ∷ tail ++ (0x00 ∷ [])

-- the small plant with this last byte: its three lowest bits are the filler
unfoldable pub ending_in : ℕ → List ℕ
ending_in byte = 0x01 ∷ 0x10 ∷ 0x20 ∷ 0x10 ∷ tail ++ (byte ∷ [])

-- one decision and one state variable, and a clause of four literals: the fourth's variable, 63, ends with the sheet
unfoldable pub absent_at_the_end : List ℕ
absent_at_the_end = 0x01 ∷ 0x08 ∷ 0x20 ∷ 0x08 ∷ 0x00 ∷ 0x00 ∷ 0x02 ∷ 0x00 ∷ 0x00 ∷ 0x00 ∷ 0x00 ∷ 0x3f ∷ []

-- ---- the host's, before the sheet

-- a call with these lengths of codes, costs, queue and store
unfoldable pub lengths : List ℕ → ℕ → ℕ → ℕ → ℕ → ℕ → ℕ → Settings
lengths sheet k codes costs queue store held = record {
  sheet = sheet;
  k = k;
  codes = codes;
  costs = costs;
  values = state_bytes * k;
  queue = queue;
  store = store;
  offered = [];
  held = held;
  limit = 1000;
}

-- the same call with so many bytes of values
unfoldable pub values_of : ℕ → Settings → Settings
values_of n s = record {
  sheet = s.sheet;
  k = s.k;
  codes = s.codes;
  costs = s.costs;
  values = n;
  queue = s.queue;
  store = s.store;
  offered = s.offered;
  held = s.held;
  limit = s.limit;
}

unfoldable pub hosts : List Row
hosts =
    -- k below 1, and above 4,096
    lengths small 0 16 16 8 8 0 gives refusal (by_host 1)
    ∷ lengths small 4097 4097 4097 8 8 0 gives refusal (by_host 1)
    -- codes shorter than k, and costs
    ∷ lengths small 16 15 16 8 8 0 gives refusal (by_host 2)
    ∷ lengths small 16 16 15 8 8 0 gives refusal (by_host 2)
    -- the values a byte shorter than 48 times k, of one state, of five and of sixteen, and none at all
    ∷ values_of 47 (lengths small 1 1 1 8 8 0) gives refusal (by_host 19)
    ∷ values_of 239 (lengths small 5 5 5 8 8 0) gives refusal (by_host 19)
    ∷ values_of 767 (lengths small 16 16 16 8 8 0) gives refusal (by_host 19)
    ∷ values_of 0 (lengths small 1 1 1 8 8 0) gives refusal (by_host 19)
    -- the queue odd, below 2 and above 8,192 words
    ∷ lengths small 16 16 16 7 8 0 gives refusal (by_host 3)
    ∷ lengths small 16 16 16 0 8 0 gives refusal (by_host 3)
    ∷ lengths small 16 16 16 8194 8 0 gives refusal (by_host 3)
    -- the store odd, above 8,192 words, and held above half of it, also of nothing
    ∷ lengths small 16 16 16 8 7 0 gives refusal (by_host 4)
    ∷ lengths small 16 16 16 8 8194 0 gives refusal (by_host 4)
    ∷ lengths small 16 16 16 8 8 5 gives refusal (by_host 4)
    ∷ lengths small 16 16 16 8 0 1 gives refusal (by_host 4)
    ∷ []

pub hosts-are : answers hosts ≡ expected hosts
unfolding hosts answers expected lengths values_of tail small
hosts-are = refl

-- what is just allowed: codes and costs longer than k, values longer than 48 times k, held half of the store (entries of sevens are dropped)
unfoldable pub allowed : List Row
allowed =
    lengths small 4 5 6 6 4 0 gives as_p1
    ∷ values_of 193 (lengths small 4 4 4 6 4 0) gives as_p1
    ∷ lengths small 4 4 4 6 4 2 gives as_p1
    ∷ []

pub allowed-are : answers allowed ≡ expected allowed
unfolding allowed answers expected lengths values_of tail small three as_p1
allowed-are = refl

-- ---- the author's, in reading order

unfoldable pub authors : List Row
authors =
    -- the edition
    plain other_edition 16 8 4 [] 1000 gives refusal (by_author 6)
    -- D 17; S 33; C 513
    ∷ plain seventeen 16 8 4 [] 1000 gives refusal (by_author 7)
    ∷ plain (0x01 ∷ 0x14 ∷ 0x20 ∷ 0x08 ∷ []) 16 8 4 [] 1000 gives refusal (by_author 8)
    ∷ plain (0x01 ∷ 0x10 ∷ 0x30 ∷ 0x08 ∷ []) 16 8 4 [] 1000 gives refusal (by_author 9)
    -- D 16, S 32 and C 512 are allowed: what follows runs past the end
    ∷ plain (0x01 ∷ 0x80 ∷ 0x00 ∷ 0x00 ∷ []) 16 8 4 [] 1000 gives refusal (by_author 5)
    ∷ plain (0x01 ∷ 0x0c ∷ 0x00 ∷ 0x00 ∷ []) 16 8 4 [] 1000 gives refusal (by_author 5)
    ∷ plain (0x01 ∷ 0x08 ∷ 0x10 ∷ 0x00 ∷ []) 16 8 4 [] 1000 gives refusal (by_author 5)
    -- a literal's variable, and its value
    ∷ plain absent_variable 16 8 4 [] 1000 gives refusal (by_author 10)
    ∷ plain value_outside 16 8 4 [] 1000 gives refusal (by_author 11)
    -- each filler bit, and a byte after them
    ∷ plain (ending_in 0x04) 16 8 4 [] 1000 gives refusal (by_author 12)
    ∷ plain (ending_in 0x02) 16 8 4 [] 1000 gives refusal (by_author 12)
    ∷ plain (ending_in 0x01) 16 8 4 [] 1000 gives refusal (by_author 12)
    ∷ plain longer 16 8 4 [] 1000 gives refusal (by_author 13)
    ∷ []

pub authors-are : answers authors ≡ expected authors
unfolding authors answers expected plain tail small other_edition seventeen absent_variable value_outside ending_in longer
authors-are = refl

-- the small plant's first n bytes, for each n below all of them: 5
unfoldable pub cut : ℕ → Row
cut n = plain (take n small) 16 8 4 [] 1000 gives refusal (by_author 5)

unfoldable pub cuts : List Row
cuts = map cut (values_from 0 20)

pub cuts_are : answers cuts ≡ expected cuts
unfolding cuts cut answers expected plain tail small
cuts_are = refl

-- ---- two grounds at once: the one that the specification puts first

unfoldable pub doubles : List Row
doubles =
    -- k and codes; codes and queue; queue and store; store and the sheet; of the values with k, with codes, with the queue and with the sheet
    lengths small 0 0 0 7 7 9 gives refusal (by_host 1)
    ∷ lengths small 4097 16 17 8 8 0 gives refusal (by_host 1)
    ∷ lengths small 17 16 17 7 7 9 gives refusal (by_host 2)
    ∷ lengths small 16 16 16 7 7 9 gives refusal (by_host 3)
    ∷ lengths other_edition 16 16 16 8 7 0 gives refusal (by_host 4)
    ∷ values_of 0 (lengths small 0 0 0 8 8 0) gives refusal (by_host 1)
    ∷ values_of 196655 (lengths small 4097 4097 4097 8 8 0) gives refusal (by_host 1)
    ∷ values_of 767 (lengths small 16 15 16 8 8 0) gives refusal (by_host 2)
    ∷ values_of 767 (lengths small 16 16 16 7 7 9) gives refusal (by_host 19)
    ∷ values_of 767 (lengths other_edition 16 16 16 8 8 0) gives refusal (by_host 19)
    -- edition and D; D and S; S and C
    ∷ plain other_edition_and17 16 8 4 [] 1000 gives refusal (by_author 6)
    ∷ plain (0x01 ∷ 0x8c ∷ 0x20 ∷ 0x08 ∷ []) 16 8 4 [] 1000 gives refusal (by_author 7)
    ∷ plain (0x01 ∷ 0x14 ∷ 0x30 ∷ 0x08 ∷ []) 16 8 4 [] 1000 gives refusal (by_author 8)
    -- a field's rule before the next field's end: edition, D, S, a literal's variable
    ∷ plain (0x02 ∷ []) 16 8 4 [] 1000 gives refusal (by_author 6)
    ∷ plain (0x01 ∷ 0x88 ∷ []) 16 8 4 [] 1000 gives refusal (by_author 7)
    ∷ plain (0x01 ∷ 0x14 ∷ 0x30 ∷ []) 16 8 4 [] 1000 gives refusal (by_author 8)
    ∷ plain absent_at_the_end 16 8 4 [] 1000 gives refusal (by_author 10)
    -- the end before a field's own rule: no D; the first bits of an S and of a C that is too great
    ∷ plain (0x01 ∷ []) 16 8 4 [] 1000 gives refusal (by_author 5)
    ∷ plain (0x01 ∷ 0x17 ∷ []) 16 8 4 [] 1000 gives refusal (by_author 5)
    ∷ plain (0x01 ∷ 0x10 ∷ 0x3f ∷ []) 16 8 4 [] 1000 gives refusal (by_author 5)
    -- filler and bytes after it
    ∷ plain damaged 16 8 4 [] 1000 gives refusal (by_author 12)
    ∷ []

pub doubles-are : answers doubles ≡ expected doubles
unfolding doubles answers expected plain lengths values_of tail small other_edition other_edition_and17 absent_at_the_end damaged
doubles-are = refl

-- Rows for tables: the sheet that is written of them, each ground of refusal alone and before the next, the tables that are read, and every lent word. Assumes nothing.
use Rattle.std.specs.Prelude.{◌≡◌, refl, List, [], ◌∷◌, ◌++◌, map, ℕ, replicate}
use Rattle.model.specs.Digits.{number, digits}
use Rattle.model.specs.Sheet.{bit_at, bits_at, then, many, field, edition1, edition2, decisions_allowed, read_figure, read_decision, read_state, read_literal, read_clause, read_filler, read_end, read_body, read_sheet}
use Rattle.model.specs.Calls.{Refusal, by_host, by_author, first_given, refused}
use Rattle.model.specs.Tables.{Tables, total, cost_rows, literals, clauses, plant_written, packed, sheet_of}
use Rattle.model.specs.TableCalls.{Wrote, unwritten, wrote, lengths_agree, fields_fit, length_grounds, literal_grounds, table_grounds, room_grounds, write_sheet, write_call, read_tables, front_tables, write_export, read_export}
use Rattle.model.proofs.Examples.{tail, small, damaged}
use Rattle.model.proofs.Edges.{one_variable, one_value}
use Rattle.model.proofs.Refusals.{other_edition, longer}

-- ---- tables

abbrev pub tables : (decisions states clauses : ℕ) (sizes costs counts literals : List ℕ) → Tables
tables decisions states clauses sizes costs counts literals = record {
  decisions = decisions;
  states = states;
  clauses = clauses;
  sizes = sizes;
  costs = costs;
  counts = counts;
  literals = literals;
}

-- the small plant: selector≠0 or clutch≠0 or drive=1; drive=0
abbrev pub twos : List ℕ
twos = 2 ∷ 2 ∷ 2 ∷ []

abbrev pub zero_three : List ℕ
zero_three = 0 ∷ 3 ∷ 0 ∷ 3 ∷ []

abbrev pub three_and_one : List ℕ
three_and_one = 3 ∷ 1 ∷ []

abbrev pub small_literals : List ℕ
small_literals = 0 ∷ 1 ∷ 0 ∷ 1 ∷ 1 ∷ 0 ∷ 2 ∷ 0 ∷ 1 ∷ 2 ∷ 0 ∷ 0 ∷ []

abbrev pub small_tables : Tables
small_tables = tables 2 1 2 twos zero_three three_and_one small_literals

-- the small plant with these numbers; with these sizes; costs; counts; literals
abbrev pub numbered : ℕ → ℕ → ℕ → Tables
numbered d s c = tables d s c twos zero_three three_and_one small_literals

abbrev pub of_sizes : List ℕ → Tables
of_sizes sizes = tables 2 1 2 sizes zero_three three_and_one small_literals

abbrev pub of_costs : List ℕ → Tables
of_costs costs = tables 2 1 2 twos costs three_and_one small_literals

abbrev pub of_counts : List ℕ → Tables
of_counts counts = tables 2 1 2 twos zero_three counts small_literals

abbrev pub of_literals : List ℕ → Tables
of_literals literals = tables 2 1 2 twos zero_three three_and_one literals

-- d decision variables of one value, s state variables of one, and c empty clauses
abbrev pub bare : ℕ → ℕ → ℕ → Tables
bare d s c = tables d s c (replicate d 1 ++ replicate s 1) (replicate d 0) (replicate c 0) []

-- one decision variable of so many values, one state variable of two, and one clause of these literals
abbrev pub single : ℕ → ℕ → List ℕ → Tables
single values count literals = tables 1 1 1 (values ∷ 2 ∷ []) (replicate values 9) (count ∷ []) literals

-- ---- the writing

-- a row: tables, the length of the lent buffer, and what is to come of it
pub data Wanted : Type 0 where
  sheet : List ℕ → Wanted
  refusal : Refusal → Wanted

pub record WriteRow : Type 0 where
  pub given : Tables
  pub room : ℕ
  pub wanted : Wanted

abbrev pub row : Tables → ℕ → Wanted → WriteRow
row t room w = record { given = t; room = room; wanted = w }

-- the lent buffer holds sevens
abbrev pub sevens : ℕ → List ℕ
sevens n = replicate n 7

abbrev pub wanted_of : ℕ → Wanted → Wrote
wanted_of room (sheet bytes) = wrote bytes (sevens room)
wanted_of room (refusal r) = unwritten (sevens room) r

-- whoever unfolds this unfolds every definition of the writing
unfoldable pub writing : WriteRow → Wrote
unfolding number digits edition1 edition2 decisions_allowed first_given total cost_rows literals clauses plant_written packed sheet_of
    lengths_agree fields_fit length_grounds literal_grounds table_grounds room_grounds write_sheet write_call
writing r = write_call r.given (sevens r.room)

unfoldable pub written : List WriteRow → List Wrote
unfolding writing
written rows = map writing rows

unfoldable pub wanted : List WriteRow → List Wrote
wanted rows = map (λ r. wanted_of r.room r.wanted) rows

unfoldable pub sheets : List WriteRow
sheets =
    -- the small plant, into a buffer of just its length, and with bytes beyond it
    row small_tables 20 (sheet small)
    ∷ row small_tables 23 (sheet small)
    -- one variable of three values: no state variable, no clause; two of unequal sizes
    ∷ row (tables 1 0 0 (3 ∷ []) (5 ∷ 4 ∷ 6 ∷ []) [] []) 11 (sheet one_variable)
    ∷ row (tables 2 0 0 (1 ∷ 2 ∷ []) (0 ∷ 2 ∷ 1 ∷ []) [] []) 12 (sheet one_value)
    -- the greatest and least of each field: a size of 16 and one of 1, a cost of 65,535, value 15, sign 1, an empty clause
    ∷ row (tables 1 2 2 (16 ∷ 1 ∷ 16 ∷ []) (65535 ∷ 0 ∷ 0x8001 ∷ 0x1234 ∷ replicate 12 0) (0 ∷ 1 ∷ []) (2 ∷ 1 ∷ 15 ∷ [])) 42
    (sheet (0x01 ∷ 0x08 ∷ 0x40 ∷ 0x17 ∷ 0xff ∷ 0xff ∷ 0x80 ∷ 0x00 ∷ 0x40 ∷ 0x00 ∷ 0x89 ∷ 0x1a ∷ replicate 24 0 ++ (0x07 ∷ 0x80 ∷ 0x85 ∷ 0xf0 ∷ [])))
    -- the bits fill the last byte: there is no filler
    ∷ row (tables 1 0 1 (1 ∷ []) (9 ∷ []) (1 ∷ []) (0 ∷ 1 ∷ 0 ∷ [])) 10 (sheet (0x01 ∷ 0x08 ∷ 0x00 ∷ 0x08 ∷ 0x00 ∷ 0x04 ∷ 0x88 ∷ 0x10 ∷ []))
    -- 15 literals
    ∷ row (single 1 15 (replicate 45 0)) 30 (sheet (0x01 ∷ 0x08 ∷ 0x20 ∷ 0x08 ∷ 0x00 ∷ 0x04 ∷ 0x8f ∷ 0x80 ∷ replicate 20 0))
    ∷ []

pub sheets-are : written sheets ≡ wanted sheets
unfolding sheets written wanted small tail one_variable one_value
sheets-are = refl

-- ---- each ground alone

unfoldable pub lengths : List WriteRow
lengths =
    -- the numbers: D, S and C one more, one fewer, all of them state variables or all decision variables, and beyond any table
    row (numbered 3 1 2) 20 (refusal (by_host 16))
    ∷ row (numbered 1 1 2) 20 (refusal (by_host 16))
    ∷ row (numbered 2 2 2) 20 (refusal (by_host 16))
    ∷ row (numbered 2 0 2) 20 (refusal (by_host 16))
    ∷ row (numbered 2 1 3) 20 (refusal (by_host 16))
    ∷ row (numbered 2 1 1) 20 (refusal (by_host 16))
    ∷ row (numbered 0 3 2) 20 (refusal (by_host 16))
    ∷ row (numbered 3 0 2) 20 (refusal (by_host 16))
    ∷ row (numbered 4294967295 4294967295 4294967295) 20 (refusal (by_host 16))
    -- the tables: one entry more, one fewer
    ∷ row (of_sizes (2 ∷ 2 ∷ [])) 20 (refusal (by_host 16))
    ∷ row (of_sizes (2 ∷ 2 ∷ 2 ∷ 2 ∷ [])) 20 (refusal (by_host 16))
    ∷ row (of_costs (0 ∷ 3 ∷ 0 ∷ [])) 20 (refusal (by_host 16))
    ∷ row (of_costs (0 ∷ 3 ∷ 0 ∷ 3 ∷ 0 ∷ [])) 20 (refusal (by_host 16))
    -- costs of the state variable besides
    ∷ row (of_costs (0 ∷ 3 ∷ 0 ∷ 3 ∷ 0 ∷ 0 ∷ [])) 20 (refusal (by_host 16))
    ∷ row (of_counts (4 ∷ [])) 20 (refusal (by_host 16))
    ∷ row (of_counts (3 ∷ 1 ∷ 0 ∷ [])) 20 (refusal (by_host 16))
    ∷ row (of_literals (0 ∷ 1 ∷ 0 ∷ 1 ∷ 1 ∷ 0 ∷ 2 ∷ 0 ∷ 1 ∷ 2 ∷ 0 ∷ [])) 20 (refusal (by_host 16))
    ∷ row (of_literals (small_literals ++ (0 ∷ []))) 20 (refusal (by_host 16))
    ∷ row (of_literals (small_literals ++ (2 ∷ 0 ∷ 0 ∷ []))) 20 (refusal (by_host 16))
    -- an entry moved from one clause to the other agrees
    ∷ row (of_counts (1 ∷ 3 ∷ [])) 20 (sheet (0x01 ∷ 0x10 ∷ 0x20 ∷ 0x10 ∷ 0x80 ∷ 0x00 ∷ 0x00 ∷ 0x01 ∷ 0x88 ∷ 0x00 ∷ 0x00 ∷ 0x00 ∷ 0x18 ∷ 0x88 ∷ 0x10 ∷ 0x30 ∷ 0x60 ∷ 0x10 ∷ 0x42 ∷ 0x00 ∷ []))
    ∷ []

pub lengths-are : written lengths ≡ wanted lengths
unfolding lengths written wanted
lengths-are = refl

unfoldable pub grounds : List WriteRow
grounds =
    -- 17: sizes 0 and 17 of a decision variable and of a state variable, 16 literals, a sign of 2
    row (single 0 0 []) 30 (refusal (by_author 17))
    ∷ row (single 17 0 []) 60 (refusal (by_author 17))
    ∷ row (of_sizes (2 ∷ 2 ∷ 0 ∷ [])) 20 (refusal (by_author 17))
    ∷ row (of_sizes (2 ∷ 2 ∷ 17 ∷ [])) 20 (refusal (by_author 17))
    ∷ row (single 1 16 (replicate 48 0)) 40 (refusal (by_author 17))
    ∷ row (of_literals (0 ∷ 1 ∷ 0 ∷ 1 ∷ 1 ∷ 0 ∷ 2 ∷ 0 ∷ 1 ∷ 2 ∷ 2 ∷ 0 ∷ [])) 20 (refusal (by_author 17))
    -- 7, 8, 9, and what is just allowed
    ∷ row (bare 0 1 0) 20 (refusal (by_author 7))
    ∷ row (bare 17 0 0) 60 (refusal (by_author 7))
    ∷ row (bare 16 0 0) 44 (sheet (0x01 ∷ 0x80 ∷ replicate 42 0))
    ∷ row (bare 1 33 0) 40 (refusal (by_author 8))
    ∷ row (bare 1 32 0) 23 (sheet (0x01 ∷ 0x0c ∷ replicate 21 0))
    ∷ row (bare 1 0 513) 300 (refusal (by_author 9))
    ∷ row (bare 1 0 512) 263 (sheet (0x01 ∷ 0x08 ∷ 0x10 ∷ replicate 260 0))
    -- 10 and 11: the first variable that is absent, one that no field holds, the first value outside the domain, one that no field holds
    ∷ row (of_literals (3 ∷ 1 ∷ 0 ∷ 1 ∷ 1 ∷ 0 ∷ 2 ∷ 0 ∷ 1 ∷ 2 ∷ 0 ∷ 0 ∷ [])) 20 (refusal (by_author 10))
    ∷ row (of_literals (0 ∷ 1 ∷ 0 ∷ 1 ∷ 1 ∷ 0 ∷ 2 ∷ 0 ∷ 1 ∷ 64 ∷ 0 ∷ 0 ∷ [])) 20 (refusal (by_author 10))
    ∷ row (of_literals (0 ∷ 1 ∷ 2 ∷ 1 ∷ 1 ∷ 0 ∷ 2 ∷ 0 ∷ 1 ∷ 2 ∷ 0 ∷ 0 ∷ [])) 20 (refusal (by_author 11))
    ∷ row (of_literals (0 ∷ 1 ∷ 0 ∷ 1 ∷ 1 ∷ 0 ∷ 2 ∷ 0 ∷ 1 ∷ 2 ∷ 0 ∷ 16 ∷ [])) 20 (refusal (by_author 11))
    -- the domain is the literal's own
    ∷ row (single 3 1 (0 ∷ 0 ∷ 2 ∷ [])) 13 (sheet (0x01 ∷ 0x08 ∷ 0x20 ∷ 0x09 ∷ 0x00 ∷ 0x04 ∷ 0x80 ∷ 0x04 ∷ 0x80 ∷ 0x04 ∷ 0x88 ∷ 0x80 ∷ 0x20 ∷ []))
    ∷ row (single 3 1 (1 ∷ 0 ∷ 2 ∷ [])) 13 (refusal (by_author 11))
    -- 18: one byte too short, and none
    ∷ row small_tables 19 (refusal (by_host 18))
    ∷ row small_tables 0 (refusal (by_host 18))
    ∷ []

pub grounds-are : written grounds ≡ wanted grounds
unfolding grounds written wanted
grounds-are = refl

-- ---- two grounds at once: the one that comes first

unfoldable pub doubles : List WriteRow
doubles =
    -- 16 before 17, also where the size that is too great has its costs
    row (tables 2 1 2 (2 ∷ 2 ∷ 17 ∷ []) (0 ∷ []) three_and_one small_literals) 20 (refusal (by_host 16))
    ∷ row (tables 1 1 2 (17 ∷ 2 ∷ []) (replicate 16 0) (0 ∷ []) []) 60 (refusal (by_host 16))
    -- 17 before 7, 8 before 9, 9 before 10
    ∷ row (tables 0 1 0 (0 ∷ []) [] [] []) 20 (refusal (by_author 17))
    ∷ row (tables 17 33 0 (replicate 50 1) (replicate 17 0) [] []) 80 (refusal (by_author 7))
    ∷ row (bare 1 33 513) 400 (refusal (by_author 8))
    ∷ row (tables 1 0 513 (1 ∷ []) (0 ∷ []) (1 ∷ replicate 512 0) (9 ∷ 0 ∷ 0 ∷ [])) 400 (refusal (by_author 9))
    -- 17 in a later literal before 10 in an earlier one
    ∷ row (of_literals (3 ∷ 1 ∷ 0 ∷ 1 ∷ 1 ∷ 0 ∷ 2 ∷ 0 ∷ 1 ∷ 2 ∷ 2 ∷ 0 ∷ [])) 20 (refusal (by_author 17))
    -- 10 and 11 of one literal, and of two in either order
    ∷ row (of_literals (3 ∷ 1 ∷ 2 ∷ 1 ∷ 1 ∷ 0 ∷ 2 ∷ 0 ∷ 1 ∷ 2 ∷ 0 ∷ 0 ∷ [])) 20 (refusal (by_author 10))
    ∷ row (of_literals (3 ∷ 1 ∷ 0 ∷ 1 ∷ 1 ∷ 2 ∷ 2 ∷ 0 ∷ 1 ∷ 2 ∷ 0 ∷ 0 ∷ [])) 20 (refusal (by_author 10))
    ∷ row (of_literals (0 ∷ 1 ∷ 2 ∷ 3 ∷ 1 ∷ 0 ∷ 2 ∷ 0 ∷ 1 ∷ 2 ∷ 0 ∷ 0 ∷ [])) 20 (refusal (by_author 11))
    -- 11 before 18
    ∷ row (of_literals (0 ∷ 1 ∷ 0 ∷ 1 ∷ 1 ∷ 0 ∷ 2 ∷ 0 ∷ 1 ∷ 2 ∷ 0 ∷ 2 ∷ [])) 3 (refusal (by_author 11))
    ∷ []

pub doubles-are : written doubles ≡ wanted doubles
unfolding doubles written wanted
doubles-are = refl

-- ---- the reading

-- lent numbers and tables of fives, a little longer than the small plant's
abbrev pub lent_tables : Tables
lent_tables = tables 5 5 5 (replicate 4 5) (replicate 5 5) (replicate 3 5) (replicate 14 5)

-- whoever unfolds this unfolds every definition of the reading
unfoldable pub reading : List ℕ → ℕ × Tables
unfolding number digits bit_at bits_at then many field edition1 edition2 decisions_allowed read_figure read_decision read_state read_literal read_clause read_filler read_end read_body read_sheet read_tables read_export
reading bytes = read_export bytes lent_tables

-- a sheet, what is returned, and the lent numbers and tables after it
pub record ReadRow : Type 0 where
  pub sheet : List ℕ
  pub returned : ℕ
  pub after : Tables

abbrev pub reads : List ℕ → ℕ → Tables → ReadRow
reads bytes returned after = record { sheet = bytes; returned = returned; after = after }

unfoldable pub readings : List ReadRow
readings =
    -- the small plant: what is beyond its tables is unchanged
    reads small 0 (tables 2 1 2 (twos ++ (5 ∷ [])) (zero_three ++ (5 ∷ [])) (three_and_one ++ (5 ∷ [])) (small_literals ++ (5 ∷ 5 ∷ [])))
    -- rows of costs without gaps, no clause
    ∷ reads one_value 0 (tables 2 0 0 (1 ∷ 2 ∷ 5 ∷ 5 ∷ []) (0 ∷ 2 ∷ 1 ∷ 5 ∷ 5 ∷ []) (replicate 3 5) (replicate 14 5))
    -- refusals change nothing, the last of them found at the sheet's end
    ∷ reads [] 5 lent_tables
    ∷ reads other_edition 6 lent_tables
    ∷ reads damaged 12 lent_tables
    ∷ reads longer 13 lent_tables
    ∷ []

unfoldable pub read_all : List ReadRow → List (ℕ × Tables)
unfolding reading
read_all rows = map (λ r. reading r.sheet) rows

unfoldable pub read_wanted : List ReadRow → List (ℕ × Tables)
read_wanted rows = map (λ r. (r.returned, r.after)) rows

pub readings-are : read_all readings ≡ read_wanted readings
unfolding readings read_all read_wanted small tail one_value other_edition damaged longer
readings-are = refl

-- the tables at the front of lent ones are those read
pub front-is : front_tables (tables 2 1 2 (twos ++ (5 ∷ [])) (zero_three ++ (5 ∷ [])) (three_and_one ++ (5 ∷ [])) (small_literals ++ (5 ∷ 5 ∷ []))) ≡ small_tables
unfolding total
front-is = refl

-- whose a refusal of the reading is
pub author-read : read_tables other_edition ≡ refused (by_author 6)
unfolding reading other_edition tail
author-read = refl

-- ---- the export of the writing

-- what it returns, and the lent buffer and word after it: the word is the number written, and unchanged by a refusal
unfoldable pub write_exports : List (ℕ × List ℕ × ℕ)
unfolding writing write_export
write_exports =
    write_export small_tables (sevens 21) 9
    ∷ write_export small_tables (sevens 19) 9
    ∷ write_export (numbered 2 2 2) (sevens 20) 9
    ∷ write_export (bare 17 0 0) (sevens 60) 9
    ∷ []

pub write-exports-are : write_exports ≡ (0, small ++ (7 ∷ []), 20) ∷ (18, sevens 19, 9) ∷ (16, sevens 20, 9) ∷ (7, sevens 60, 9) ∷ []
unfolding write_exports small tail
write-exports-are = refl

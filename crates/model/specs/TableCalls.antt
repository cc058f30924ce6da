-- Specification, "Tables": the calls that write a sheet of tables and read one into them, from every number and lent buffer before to the answer and every lent buffer after, and their exports. Assumes nothing: these are definitions.
use Rattle.std.specs.Prelude.{Bool, not, ◌&&◌, List, [], ◌∷◌, ℕ, ◌+◌, ◌*◌, ltb, leb, eqb, length, take, get_or}
use Rattle.std.proofs.Math.Option.{none, some}
use Rattle.model.specs.Lists.{all_of, in_turn, filled}
use Rattle.model.specs.Sheet.{Literal, Read, got, Edition, edition1, decisions_allowed, read_sheet}
use Rattle.model.specs.Calls.{Refusal, by_host, by_author, refusal_number, Ground, ground_if, first_given, Answered, refused, answered}
use Rattle.model.specs.Tables.{Tables, total, literals, plant_of, tables_of, sheet_of}

-- ---- a call that only writes out bytes

-- it answers how many it wrote; the lent buffer after it
pub record Wrote : Type 0 where
  pub answer : Answered ℕ
  pub after : List ℕ

-- a refusal changes no lent buffer
abbrev pub unwritten : List ℕ → Refusal → Wrote
unwritten buffer r = record { answer = refused r; after = buffer }

-- bytes beyond those written are unchanged
abbrev pub wrote : List ℕ → List ℕ → Wrote
wrote bytes buffer = record { answer = answered (length bytes); after = filled bytes buffer }

-- ---- the writing call

-- the lengths agree with the numbers: a size for each variable, a cost for each value of each decision variable, a count for each clause, three bytes for each literal
unfoldable pub lengths_agree : Tables → Bool
lengths_agree t =
    eqb (length t.sizes) (t.decisions + t.states)
    && eqb (length t.costs) (total (take t.decisions t.sizes))
    && eqb (length t.counts) t.clauses
    && eqb (length t.literals) (3 * total t.counts)

-- the sizes are from 1 to 16, the clauses have at most 15 literals, the signs are at most 1
unfoldable pub fields_fit : Tables → Bool
fields_fit t = all_of (λ n. leb 1 n && leb n 16) t.sizes && all_of (λ n. leb n 15) t.counts && all_of (λ l. leb l.sign 1) (literals t.literals)

-- the host's, first. 16: tables whose lengths disagree with the numbers
unfoldable pub length_grounds : Tables → List Ground
length_grounds t = ground_if (not (lengths_agree t)) 16 ∷ []

-- of a literal, over domains of these sizes. 10: its variable is absent. 11: its value is outside the domain.
unfoldable pub literal_grounds : List ℕ → Literal → List Ground
literal_grounds domains l = ground_if (not (ltb l.variable (length domains))) 10 ∷ ground_if (not (ltb l.value (get_or domains l.variable 0))) 11 ∷ []

-- the author's, then. 17: a domain size outside 1 to 16, a clause of more than 15 literals or a sign above 1. 7, 8, 9: the numbers of decision variables, of state variables and of clauses. 10 and 11: literal by literal.
unfoldable pub table_grounds : Edition → Tables → List Ground
table_grounds e t =
    ground_if (not (fields_fit t)) 17
    ∷ ground_if (not (decisions_allowed e t.decisions)) 7
    ∷ ground_if (not (leb t.states 32)) 8
    ∷ ground_if (not (leb t.clauses 512)) 9
    ∷ in_turn (literal_grounds t.sizes) (literals t.literals)

-- the host's, last. 18: a buffer shorter than the sheet
unfoldable pub room_grounds : List ℕ → List ℕ → List Ground
room_grounds sheet buffer = ground_if (ltb (length buffer) (length sheet)) 18 ∷ []

-- a sheet into a lent buffer
unfoldable pub write_sheet : List ℕ → List ℕ → Wrote
write_sheet sheet buffer = elim (first_given (room_grounds sheet buffer)) [ some n ↦ unwritten buffer (by_host n) | none ↦ wrote sheet buffer ]

-- the writing call
unfoldable pub write_call : Tables → List ℕ → Wrote
write_call t buffer =
    elim (first_given (length_grounds t)) [
      | some n ↦ unwritten buffer (by_host n)
      | none ↦ elim (first_given (table_grounds edition1 t)) [
        | some n ↦ unwritten buffer (by_author n)
        | none ↦ write_sheet (sheet_of edition1 (plant_of t)) buffer
      ]
    ]

-- ---- the reading call

-- the tables of a sheet, or its author's refusal
unfoldable pub read_tables : List ℕ → Answered Tables
read_tables sheet = elim (read_sheet edition1 sheet) [ Read.refused n ↦ refused (by_author n) | got p end ↦ answered (tables_of p) ]

-- tables at the front of lent ones; what is beyond them is unchanged
abbrev pub filled_tables : Tables → Tables → Tables
filled_tables t lent = record {
  decisions = t.decisions;
  states = t.states;
  clauses = t.clauses;
  sizes = filled t.sizes lent.sizes;
  costs = filled t.costs lent.costs;
  counts = filled t.counts lent.counts;
  literals = filled t.literals lent.literals;
}

-- the lent numbers and tables after a reading; a refusal changes none
abbrev pub tables_after : Tables → Answered Tables → Tables
tables_after lent (refused r) = lent
tables_after lent (answered t) = filled_tables t lent

-- the tables at the front of lent ones, as long as their numbers say
abbrev pub front_tables : Tables → Tables
front_tables lent = record {
  decisions = lent.decisions;
  states = lent.states;
  clauses = lent.clauses;
  sizes = take (lent.decisions + lent.states) lent.sizes;
  costs = take (total (take lent.decisions lent.sizes)) lent.costs;
  counts = take lent.clauses lent.counts;
  literals = take (3 * total (take lent.clauses lent.counts)) lent.literals;
}

-- ---- the exports to C

-- the number of a refusal, or 0
abbrev pub returned_by : {A : Type 0} → Answered A → ℕ
returned_by (refused r) = refusal_number r
returned_by (answered a) = 0

-- the lent word for the number written, after the call: a refusal leaves it
abbrev pub written_word : ℕ → Answered ℕ → ℕ
written_word word (refused r) = word
written_word word (answered n) = n

-- what the export of the writing returns, and the lent buffer and word after it
unfoldable pub write_export : Tables → List ℕ → ℕ → ℕ × List ℕ × ℕ
write_export t buffer word = let w : Wrote = write_call t buffer in (returned_by w.answer, w.after, written_word word w.answer)

-- what the export of the reading returns, and the lent numbers and tables after it
unfoldable pub read_export : List ℕ → Tables → ℕ × Tables
read_export sheet lent = (returned_by (read_tables sheet), tables_after lent (read_tables sheet))

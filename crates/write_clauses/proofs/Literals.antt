-- A literal's field, and the literals of a clause put one after another. Assumes nothing.
use mathlib.Core.Path.{◌≡◌, sym, ap, ◌∙◌}
use mathlib.Core.List.{List, [], ◌++◌, map}
use Prim.Native.Nat.{ℕ, ◌+◌, ◌*◌, ◌^◌, ◌<◌, ◌≤◌}
use native.Mathlib.Omega.{arith}
use lib.ListN.{length, get_or, drop, length-append}
use Rattle.std.proofs.lemmas.List.{length-map}
use Rattle.model.specs.Digits.{digits}
use Rattle.model.specs.Lists.{All, in_turn}
use Rattle.model.specs.Sheet.{Literal}
use Rattle.model.specs.Tables.{literals, literal_written, clause_written}
use Rattle.theory.specs.Longest.{literal_bits}
use Rattle.theory.specs.Puts.{Puts}
use Rattle.theory.proofs.Digits.{digits_length, digits-join}
use Rattle.theory.proofs.Puts.{PutsBefore, part-start, part_room, part_step, part_end}
use Rattle.table_rules.specs.Triple.{literal_of}
use Rattle.table_rules.proofs.Laws.{triples-step, triples-end}
use Rattle.write_clauses.specs.Narrow.{Narrow}

-- a literal's field holds the digits of its three numbers
pub literal-field : (v s x : ℕ) → s < 2 ^ 1 → x < 2 ^ 4 → digits 2 literal_bits (v * 2 ^ 5 + s * 2 ^ 4 + x) ≡ literal_written (record { variable = v; sign = s; value = x })
literal-field v s x p q =
    let e : v * 2 ^ 5 + s * 2 ^ 4 + x ≡ v * 2 ^ 5 + (s * 2 ^ 4 + x) = omega arith in
    rw e (digits-join 2 6 5 v (s * 2 ^ 4 + x) (omega arith) (omega arith) ∙ ap (λ (ds : List ℕ). digits 2 6 v ++ ds) (digits-join 2 1 4 s x (omega arith) q))

-- how many bits a literal has
literal_length : (l : Literal) → length (literal_written l) ≡ literal_bits
literal_length l = simp (length-append, digits_length)

-- how many a clause has
pub clause_length : (c : List Literal) → length (clause_written c) ≡ 4 + length (in_turn literal_written c)
clause_length c = simp (length-append, digits_length)

-- as many triples as literals
pub triples_length : (ts : List (List ℕ)) (lits : List ℕ) → map literal_of ts ≡ literals lits → length ts ≡ length (literals lits)
triples_length ts lits e = sym (length-map ts literal_of) ∙ ap length e

-- the bits of literals
abbrev pub triples_written : List (List ℕ) → List ℕ
triples_written ts = in_turn literal_written (map literal_of ts)

-- the literals before the place i are put, and those that are left fit their fields
pub record LiteralsTo (place : ℕ) (ts : List (List ℕ)) (before : List ℕ) (i next : ℕ) (after : List ℕ) : Type 0 where
  pub puts : PutsBefore place (triples_written ts) (triples_written (drop i ts)) before next after
  pub narrow : All Narrow (map literal_of (drop i ts))

module _ {place : ℕ} {ts : List (List ℕ)} {before : List ℕ} where
  pub literals-first : All Narrow (map literal_of ts) → LiteralsTo place ts before 0 place before
  literals-first narrow = record { puts = part-start place (triples_written ts) before; narrow = narrow }

  module _ {i next : ℕ} {after : List ℕ} (more : i < length ts) (s : LiteralsTo place ts before i next after) where
    both : Narrow (literal_of (get_or ts i [])) × All Narrow (map literal_of (drop (i + 1) ts))
    both = rw (triples-step ts i more) at s.narrow

    opened : triples_written (drop i ts) ≡ literal_written (literal_of (get_or ts i [])) ++ triples_written (drop (i + 1) ts)
    opened = ap (in_turn literal_written) (triples-step ts i more)

    -- the next literal fits its fields
    pub literal-narrow : Narrow (literal_of (get_or ts i []))
    literal-narrow = both.0

    -- it finds room
    pub literal-room : (room : ℕ) → place + length (triples_written ts) ≤ room → next + literal_bits ≤ room
    literal-room room h =
        let bits = part_room s.puts (literal_written (literal_of (get_or ts i []))) (triples_written (drop (i + 1) ts)) room opened h in
        omega (arith, bits, literal_length (literal_of (get_or ts i [])))

    -- it is put
    pub literals-next : {next' : ℕ} {after' : List ℕ} → place ≤ length before → Puts next (literal_written (literal_of (get_or ts i []))) after next' after' → LiteralsTo place ts before (i + 1) next' after'
    literals-next within p = record { puts = part_step s.puts within opened p; narrow = both.1 }

  -- all literals are put
  pub literals-put : {i next : ℕ} {after : List ℕ} → length ts ≤ i → LiteralsTo place ts before i next after → Puts place (triples_written ts) before next after
  literals-put {i} h s = part_end (ap (in_turn literal_written) (triples-end ts i h)) s.puts

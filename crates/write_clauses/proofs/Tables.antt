-- The clauses of tables put one after another. Assumes nothing.
use mathlib.Core.Path.{◌≡◌, ap}
use mathlib.Core.List.{List, [], ◌∷◌, ◌++◌}
use Prim.Native.Nat.{ℕ, ◌+◌, ◌*◌, ◌<◌, ◌≤◌}
use native.Mathlib.Omega.{arith}
use native.Mathlib.Numerals.{add-one}
use lib.ListN.{length, get_or, take, drop, take-append-drop, length-drop, drop_of_length-le}
use lib.Seq.{drop-cons, length-take-le}
use Rattle.model.specs.Lists.{All, in_turn}
use Rattle.model.specs.Tables.{total, literals, clauses, clause_written}
use Rattle.readings.specs.Lengths.{clause_bytes}
use Rattle.theory.specs.Puts.{Puts}
use Rattle.theory.proofs.Lists.{all_left, all_right}
use Rattle.theory.proofs.Puts.{PutsBefore, part-start, part_room, part_step, part_end}
use Rattle.theory.proofs.TableClauses.{literals-join}
use Rattle.write_clauses.specs.Narrow.{Narrow}

-- the clauses are put up to the clause i, and the bytes that are left hold the literals of the others; the counts and the literals that are left fit their fields
pub record ClausesTo (place : ℕ) (counts lits before : List ℕ) (i : ℕ) (left : List ℕ) (next : ℕ) (after : List ℕ) : Type 0 where
  pub puts : PutsBefore place (in_turn clause_written (clauses counts lits)) (in_turn clause_written (clauses (drop i counts) left)) before next after
  pub few : All (λ n. n ≤ 15) (drop i counts)
  pub bytes : length left ≡ 3 * total (drop i counts)
  pub narrow : All Narrow (literals left)

module _ {place : ℕ} {counts lits before : List ℕ} where
  pub clauses-first : All (λ n. n ≤ 15) counts → length lits ≡ 3 * total counts → All Narrow (literals lits) → ClausesTo place counts lits before 0 lits place before
  clauses-first few bytes narrow = record { puts = part-start place (in_turn clause_written (clauses counts lits)) before; few = few; bytes = bytes; narrow = narrow }

  module _ {i next : ℕ} {left after : List ℕ} (more : i < length counts) (s : ClausesTo place counts lits before i left next after) where
    -- the bytes of the next clause's literals, and those behind them
    abbrev here : List ℕ
    here = take (3 * get_or counts i 0) left

    abbrev behind : List ℕ
    behind = drop (3 * get_or counts i 0) left

    opened : drop i counts ≡ get_or counts i 0 ∷ drop (i + 1) counts
    opened = rw (add-one, drop-cons counts i 0 more)

    counted : (get_or counts i 0 ≤ 15) × All (λ n. n ≤ 15) (drop (i + 1) counts)
    counted = rw opened at s.few

    sum : total (drop i counts) ≡ get_or counts i 0 + total (drop (i + 1) counts)
    unfolding total
    sum = ap total opened

    -- the bytes of the next clause's literals are there
    pub bytes-there : 3 * get_or counts i 0 ≤ length left
    bytes-there = omega (arith, s.bytes, sum)

    bytes-long : length here ≡ 3 * get_or counts i 0
    bytes-long = length-take-le (3 * get_or counts i 0) left bytes-there

    -- they are no more than a clause has
    pub bytes_most : length here ≤ clause_bytes
    bytes_most = omega (arith, bytes-long, counted.0)

    split : literals left ≡ literals here ++ literals behind
    split = rw take-append-drop at (literals-join (get_or counts i 0) here behind bytes-long)

    apart : All Narrow (literals here ++ literals behind)
    apart = rw split at s.narrow

    -- its literals fit their fields
    pub bytes-narrow : All Narrow (literals here)
    bytes-narrow = all_left Narrow (literals here) (literals behind) apart

    rest : in_turn clause_written (clauses (drop i counts) left) ≡ clause_written (literals here) ++ in_turn clause_written (clauses (drop (i + 1) counts) behind)
    unfolding clauses
    rest = rw opened

    -- it finds room
    pub clause-room : (room : ℕ) → place + length (in_turn clause_written (clauses counts lits)) ≤ room → next + length (clause_written (literals here)) ≤ room
    clause-room room h = part_room s.puts (clause_written (literals here)) (in_turn clause_written (clauses (drop (i + 1) counts) behind)) room rest h

    -- it is put
    pub clauses-next : {next' : ℕ} {after' : List ℕ} → place ≤ length before → Puts next (clause_written (literals here)) after next' after' → ClausesTo place counts lits before (i + 1) behind next' after'
    clauses-next h p = record {
      puts = part_step s.puts h rest p;
      few = counted.1;
      bytes = simp length-drop (omega (arith, s.bytes, sum));
      narrow = all_right Narrow (literals here) (literals behind) apart;
    }

  -- all clauses are put
  pub clauses-put : {i next : ℕ} {left after : List ℕ} → length counts ≤ i → ClausesTo place counts lits before i left next after → Puts place (in_turn clause_written (clauses counts lits)) before next after
  unfolding clauses
  clauses-put {i} h s =
      let e : drop i counts ≡ [] = drop_of_length-le counts h in
      part_end (rw e) s.puts

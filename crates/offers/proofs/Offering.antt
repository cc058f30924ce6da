-- Step 1, entry by entry: what one check leaves is what the model's check goes on with. Assumes nothing.
use mathlib.Core.Path.{◌≡◌, ◌∙◌}
use mathlib.Core.Bool.{true, false}
use mathlib.Core.List.{List, [], ◌∷◌, ◌++◌}
use Prim.Native.Nat.{ℕ, suc, ◌+◌, ◌-◌, ◌*◌, ◌^◌, ◌≤◌, ◌<◌}
use native.Mathlib.Omega.{arith}
use native.Mathlib.Nat.{sub-zero}
use lib.ListN.{length, get_or, take, drop, length-map}
use lib.Seq.{drop-drop}
use Rattle.model.specs.Lists.{Pairs}
use Rattle.model.specs.Sheet.{Plant, decision_sizes}
use Rattle.model.specs.Assignment.{Assignment, assignment_of, well_formed}
use Rattle.model.specs.Consistency.{consistent, inconsistent, spent, test}
use Rattle.model.specs.Listing.{survivors_of, check_offers}
use Rattle.model.specs.Calls.{offers_of}
use Rattle.theory.specs.Tables.{Tabled}
use Rattle.theory.specs.Store.{Neither, Long, admitted}
use Rattle.theory.proofs.Lists.{all_join}
use Rattle.theory.proofs.Store.{survivors-shortest, survivors-more}
use Rattle.theory.proofs.Tables.{tabled-decisions, tabled-count, tabled-few}
use Rattle.theory.proofs.Words.{well_formed-valid, well_formed-words}
use Rattle.store.specs.Store.{Keeps}
use Rattle.store.proofs.Entries.{from-entry}
use Rattle.store.proofs.Callers.{keeps-none}
use Rattle.trials.specs.declared.Answer.{Answer}
use Rattle.trials.specs.Answers.{answer_of, leaves, Ended}
use Rattle.conflict.specs.Given.{ForWords}
use Rattle.conflict.proofs.Given.{as_ended}
use Rattle.conflict.specs.Reduced.{Held}
use Rattle.std.specs.Prelude.{Ok, Err}
use Rattle.offers.specs.declared.Offered.{Offered}
use Rattle.offers.specs.Offers.{offers_from, CheckedOne, OfferedAs}

-- ---- the offered entries

module _ (held : ℕ) (words : List ℕ) where
  -- from place 0 on they are all
  offers-start : offers_from held words 0 ≡ offers_of held words
  offers-start = rw (sub-zero held)

  -- the next offer is the entry at i
  offers-step : (i : ℕ) {mask values : ℕ} → 2 * held ≤ length words → i < held → mask ≡ get_or words (2 * i) 0 → values ≡ get_or words (2 * i + 1) 0
      → offers_from held words i ≡ record { mask = mask; values = values } ∷ offers_from held words (i + 1)
  unfolding offers_of
  offers-step i l h p q =
      let e : held - i ≡ suc (held - (i + 1)) = omega arith in
      rw (p, q, e, from-entry words i (omega arith))

  -- after the last there is none
  offers-end : (i : ℕ) → held ≤ i → offers_from held words i ≡ []
  unfolding offers_of
  offers-end i h = let e : held - i ≡ 0 = omega arith in rw e

  -- an append behind m entries leaves the offers behind i, if m is at most i
  offers-kept : (others : List ℕ) (m i : ℕ) → m ≤ i → drop (2 * m + 2) others ≡ drop (2 * m + 2) words → offers_from held others (i + 1) ≡ offers_from held words (i + 1)
  offers-kept others m i h e =
      let f : 2 * (i + 1) ≡ 2 * m + 2 + (2 * i - 2 * m) = omega arith in
      rw (f, ← drop-drop (2 * i - 2 * m) (2 * m + 2) others, ← drop-drop (2 * i - 2 * m) (2 * m + 2) words, e)

-- ---- one entry

module _ {p : Plant} {d : ℕ} {sizes prices counts lits : List ℕ} (t : Tabled p d sizes prices counts lits) where
  -- a well formed entry's words hold its assignment
  pub offer_held : (mask values : ℕ) → well_formed (take d sizes) mask values ≡ true → mask < 2 ^ 64 → values < 2 ^ 64 → Held p (assignment_of (length p.costs) mask values) mask values
  offer_held mask values e fm fv =
      let l = length-map p.costs length in
      let w : well_formed (decision_sizes p) mask values ≡ true = rw (tabled-decisions t) e in
      rw (← l) record {
        words = well_formed-words (decision_sizes p) mask values w (omega (arith, tabled-count t, tabled-few t)) fm fv;
        valid = well_formed-valid (decision_sizes p) mask values w;
      }

  -- a test of the two words is the model's test of that assignment
  pub offer-ended : (limit used mask values : ℕ) {r : Answer} → well_formed (take d sizes) mask values ≡ true → mask < 2 ^ 64 → values < 2 ^ 64
      → ForWords d sizes counts lits mask values (λ p a. r ≡ answer_of (test p limit a used))
      → Ended (test p limit (assignment_of (length p.costs) mask values) used) [] (leaves [] (test p limit (assignment_of (length p.costs) mask values) used)) r
  offer-ended limit used mask values e fm fv answer = let h = offer_held mask values e fm fv in as_ended (answer p prices t _ h.words h.valid)

  module _ (limit held i : ℕ) (before : List ℕ) (found : List Assignment) (used m mask values : ℕ)
      (within : i < held) (room : 2 * held ≤ length before) (em : mask ≡ get_or before (2 * i) 0) (ev : values ≡ get_or before (2 * i + 1) 0)
      (long : Long (length p.costs) found) (keeps : Keeps (length p.costs) before m (survivors_of found)) (few : m ≤ i) where
    -- the entry's assignment
    abbrev pub entry : Assignment
    entry = assignment_of (length p.costs) mask values

    next : offers_from held before i ≡ record { mask = mask; values = values } ∷ offers_from held before (i + 1)
    next = offers-step held before i room within em ev

    -- the entry is not well formed
    pub check_malformed : well_formed (take d sizes) mask values ≡ false → CheckedOne p limit held i found used before before (Ok (record { survivors = m; trials = used }))
    unfolding check_offers
    check_malformed e =
        let w : well_formed (decision_sizes p) mask values ≡ false = rw (tabled-decisions t) e in
        (found, long, keeps, rw (next, check_offers, w))

    module _ (e : well_formed (take d sizes) mask values ≡ true) where
      w : well_formed (decision_sizes p) mask values ≡ true
      w = rw (tabled-decisions t) e

      -- it is consistent
      pub check_consistent : {f : List ℕ} {u : ℕ} → test p limit entry used ≡ consistent f u → CheckedOne p limit held i found used before before (Ok (record { survivors = m; trials = u }))
      unfolding check_offers
      check_consistent q = (found, long, keeps, rw (next, check_offers, w, q))

      -- the limit struck
      pub check_spent : {u : ℕ} → test p limit entry used ≡ spent u → CheckedOne p limit held i found used before before (Err (record { survivors = m; trials = u }))
      unfolding check_offers
      check_spent q = (keeps, rw (next, check_offers, w, q))

      -- it is found inconsistent: what it makes of the survivors is what one found more makes of them
      pub check_inconsistent : {u n : ℕ} (after : List ℕ) → length entry ≡ length p.costs → test p limit entry used ≡ inconsistent u
          → (Pairs Neither (survivors_of found) → Keeps (length p.costs) after n (admitted (survivors_of found) entry))
          → drop (2 * m + 2) after ≡ drop (2 * m + 2) before → CheckedOne p limit held i found used before after (Ok (record { survivors = n; trials = u }))
      unfolding check_offers
      check_inconsistent {u} after l q k s =
          let e : offers_from held after (i + 1) ≡ offers_from held before (i + 1) = offers-kept held before after m i few s in
          let more : survivors_of (found ++ (entry ∷ [])) ≡ admitted (survivors_of found) entry = survivors-more (length p.costs) found long entry l in (
            found ++ (entry ∷ []),
            all_join (λ c. length c ≡ length p.costs) found (entry ∷ []) long (l, tt),
            rw more (k (survivors-shortest (length p.costs) found long).apart),
            rw (next, check_offers, w, q, e),
          )

-- ---- the loop

-- so many entries have been checked: the store keeps the survivors of those found inconsistent, and the check goes on behind them
pub record CheckedTo (p : Plant) (limit held : ℕ) (start : List ℕ) (i : ℕ) (store : List ℕ) (o : Offered) : Type 0 where
  pub found : List Assignment
  pub long : Long (length p.costs) found
  pub keeps : Keeps (length p.costs) store o.survivors (survivors_of found)
  pub same : check_offers p limit [] (offers_of held start) 0 ≡ check_offers p limit found (offers_from held store i) o.trials

module _ {p : Plant} {limit held : ℕ} {start : List ℕ} where
  pub checked-start : length p.costs ≤ 16 → CheckedTo p limit held start 0 start (record { survivors = 0; trials = 0 })
  checked-start h = record { found = []; long = tt; keeps = keeps-none (length p.costs) start h; same = rw (offers-start held start) }

  module _ {i : ℕ} {store : List ℕ} {o : Offered} (h : CheckedTo p limit held start i store o) where
    pub checked-next : {after : List ℕ} {next : Offered} → CheckedOne p limit held i h.found o.trials store after (Ok next) → CheckedTo p limit held start (i + 1) after next
    checked-next one = record { found = one.0; long = one.1; keeps = one.2; same = h.same ∙ one.3 }

    pub checked_broken : {after : List ℕ} {next : Offered} → CheckedOne p limit held i h.found o.trials store after (Err next) → OfferedAs p after (Err next) (check_offers p limit [] (offers_of held start) 0)
    checked_broken one = (survivors_of h.found, one.0, h.same ∙ one.1)

    pub checked-end : held ≤ i → OfferedAs p store (Ok o) (check_offers p limit [] (offers_of held start) 0)
    unfolding check_offers
    checked-end l = (survivors_of h.found, h.keeps, h.same ∙ rw (offers-end held store i l))

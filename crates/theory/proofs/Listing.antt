-- Step 1, and the listing from its start to its end. Assumes nothing.
use mathlib.Core.Path.{◌≡◌, refl, sym, ap, ◌∙◌}
use mathlib.Core.Logic.{inl, inr}
use mathlib.Core.Bool.{Bool, true, false}
use mathlib.Core.List.{List, [], ◌∷◌, ◌++◌, append-nil, append_assoc, map-append}
use Prim.Native.Nat.{ℕ, ◌≤◌}
use native.Mathlib.Omega.{arith}
use lib.ListN.{length, length-map}
use Rattle.model.specs.Lists.{Mem, All, Pairs}
use Rattle.model.specs.Sheet.{Plant, decision_sizes}
use Rattle.model.specs.Assignment.{Assignment, Valid, well_formed, assignment_of}
use Rattle.model.specs.Consistency.{Consistent, Tested, consistent, inconsistent, test}
use Rattle.model.specs.Conflict.{Conflict}
use Rattle.model.specs.Order.{Order}
use Rattle.model.specs.Listing.{State, Ending, ended, Offer, Checked, checked, broken_off, survivors_of, check_offers, start, enough_steps, listing}
use Rattle.theory.specs.Order.{Lawful}
use Rattle.theory.specs.Consistency.{VariablesPresent}
use Rattle.theory.specs.Store.{Among, Neither, ContainsOne, Shortest, offered_in, Survivors, FromOffers}
use Rattle.theory.specs.Run.{Going, Done}
use Rattle.theory.proofs.Lists.{all_map, at-member}
use Rattle.theory.proofs.Children.{keep_join}
use Rattle.theory.proofs.Words.{well_formed-valid}
use Rattle.theory.proofs.Test.{test-consistent, test-inconsistent}
use Rattle.theory.proofs.TestTrials.{test-trials, test-spent-at}
use Rattle.theory.proofs.Store.{among_skip, among-left, among_trans, among-all, survivors-shortest}
use Rattle.theory.proofs.Learned.{long-conflicts, stored-start}
use Rattle.theory.proofs.Moves.{searching-start}
use Rattle.theory.proofs.Run.{spent-done, run-done}

-- what step 1 leaves: survivors of all offers with trials within the limit; or where it is broken off, survivors of the offers checked so far, with the trials at the limit
abbrev pub Survived : Plant → ℕ → List Offer → Checked → Type 0
Survived p limit offers (checked survivors t) = Survivors p offers survivors × (t ≤ limit)
Survived p limit offers (broken_off survivors t) = (done rest : List Offer) × (offers ≡ done ++ rest) × Survivors p done survivors × (t ≡ limit)

-- the conflicts found among these offers, behind some found before, and those that survive of all
record Found (p : Plant) (before : List Assignment) (offers : List Offer) (survivors : List Assignment) : Type 0 where
  new : List Assignment
  survive : survivors ≡ survivors_of (before ++ new)
  conflicts : All (Conflict p) new
  among : Among new (offered_in p offers)
  complete : All (λ c. Conflict p c → Mem c new) (offered_in p offers)

abbrev FoundBy : Plant → ℕ → List Assignment → List Offer → Checked → Type 0
FoundBy p limit before offers (checked survivors t) = Found p before offers survivors × (t ≤ limit)
FoundBy p limit before offers (broken_off survivors t) = (done rest : List Offer) × (offers ≡ done ++ rest) × Found p before done survivors × (t ≡ limit)

module _ (p : Plant) where
  -- the assignment of an offered entry
  abbrev entry : Offer → Assignment
  entry o = assignment_of (length p.costs) o.mask o.values

  abbrev formed : Offer → Bool
  formed o = well_formed (decision_sizes p) o.mask o.values

  module _ {before : List Assignment} {offers : List Offer} {survivors : List Assignment} (o : Offer) where
    -- an offer that is not well formed
    found_malformed : formed o ≡ false → Found p before offers survivors → Found p before (o ∷ offers) survivors
    found_malformed e h = record { new = h.new; survive = h.survive; conflicts = h.conflicts; among = rw (offered_in, e) h.among; complete = rw (offered_in, e) h.complete }

    -- one that is consistent
    found-consistent : formed o ≡ true → Consistent p (entry o) → Found p before offers survivors → Found p before (o ∷ offers) survivors
    found-consistent e ok h = record {
      new = h.new;
      survive = h.survive;
      conflicts = h.conflicts;
      among = rw (offered_in, e) (among_skip h.new (entry o) (offered_in p offers) h.among);
      complete = rw (offered_in, e) ((λ k. absurd (k.inconsistent ok)), h.complete);
    }

    -- one that is a conflict
    found-conflict : formed o ≡ true → Conflict p (entry o) → Found p (before ++ (entry o ∷ [])) offers survivors → Found p before (o ∷ offers) survivors
    found-conflict e k h = record {
      new = entry o ∷ h.new;
      survive = h.survive ∙ ap survivors_of (append_assoc before (entry o ∷ []) h.new);
      conflicts = (k, h.conflicts);
      among = rw (offered_in, e) (inl (refl, h.among));
      complete = rw (offered_in, e) ((λ j. inl refl), all_map (λ c f j. inr (f j)) (offered_in p offers) h.complete);
    }

  -- whatever one offer more makes of what was found, it makes of both endings of step 1
  found_first : (limit : ℕ) (o : Offer) (before before' : List Assignment) (offers : List Offer) → ((done : List Offer) (survivors : List Assignment) → Found p before' done survivors → Found p before (o ∷ done) survivors)
      → (c : Checked) → FoundBy p limit before' offers c → FoundBy p limit before (o ∷ offers) c
  found_first limit o before before' offers step (checked survivors t) h = (step offers survivors h.0, h.1)
  found_first limit o before before' offers step (broken_off survivors t) h = (o ∷ h.0, h.1, ap (λ (r : List Offer). o ∷ r) h.2, step h.0 survivors h.3, h.4)

module _ (p : Plant) (present : VariablesPresent p) (limit : ℕ) where
  -- a well formed entry holds a valid assignment
  pub offer_valid : (o : Offer) → well_formed (decision_sizes p) o.mask o.values ≡ true → Valid (decision_sizes p) (assignment_of (length p.costs) o.mask o.values)
  offer_valid o e = rw (← length-map p.costs length) (well_formed-valid (decision_sizes p) o.mask o.values e)

  -- each that is found was tested, so it is a conflict, and each offered conflict is found
  offers-found : (before : List Assignment) (offers : List Offer) (used : ℕ) → used ≤ limit → FoundBy p limit before offers (check_offers p limit before offers used)
  unfolding check_offers
  offers-found before [] used h = (record { new = []; survive = ap survivors_of (sym (append-nil before)); conflicts = tt; among = tt; complete = tt }, h)
  offers-found before (o ∷ offers) used h = go (formed p o) refl (test p limit (entry p o) used) refl (λ f t. offers-found f offers t)
    where
      go : (b : Bool) → formed p o ≡ b → (r : Tested) → test p limit (entry p o) used ≡ r
          → ((f : List Assignment) (t : ℕ) → t ≤ limit → FoundBy p limit f offers (check_offers p limit f offers t))
          → FoundBy p limit before (o ∷ offers) (check_offers p limit before (o ∷ offers) used)
      go false e r f ih = rw (check_offers, e) (found_first p limit o before before offers (λ done survivors. found_malformed p o e) (check_offers p limit before offers used) (ih before used h))
      go true e (consistent w t) f ih = rw (check_offers, e, f)
          (found_first p limit o before before offers (λ done survivors. found-consistent p o e (w, test-consistent p present limit (entry p o) (offer_valid o e) used w t f)) (check_offers p limit before offers t)
          (ih before t (rw f at ((test-trials p limit (entry p o) used).within h))))
      go true e (inconsistent t) f ih = rw (check_offers, e, f)
          (found_first p limit o before (before ++ (entry p o ∷ [])) offers
          (λ done survivors. found-conflict p o e (record { valid = offer_valid o e; inconsistent = test-inconsistent p present limit (entry p o) (offer_valid o e) used t f }))
          (check_offers p limit (before ++ (entry p o ∷ [])) offers t)
          (ih (before ++ (entry p o ∷ [])) t (rw f at ((test-trials p limit (entry p o) used).within h))))
      go true e (Tested.spent t) f ih = rw (check_offers, e, f)
          ([], o ∷ offers, refl, record { new = []; survive = ap survivors_of (sym (append-nil before)); conflicts = tt; among = tt; complete = tt }, test-spent-at p limit (entry p o) used h t f)

  -- those that survive are the shortest of what was found
  found-survive : (offers : List Offer) (survivors : List Assignment) → Found p [] offers survivors → Survivors p offers survivors
  found-survive offers survivors h =
      let s : Shortest h.new survivors = rw h.survive (survivors-shortest (length (decision_sizes p)) h.new (long-conflicts p h.new h.conflicts)) in
      record {
        conflicts = among-all (Conflict p) survivors h.new s.among h.conflicts;
        apart = s.apart;
        offered = among_trans survivors h.new (offered_in p offers) s.among h.among;
        remembered = all_map (λ c f k. at-member (ContainsOne survivors) h.new s.covers c (f k)) (offered_in p offers) h.complete;
      }

  pub offers-survive : (offers : List Offer) → Survived p limit offers (check_offers p limit [] offers 0)
  offers-survive offers = go (check_offers p limit [] offers 0) (offers-found [] offers 0 (omega arith))
    where
      go : (c : Checked) → FoundBy p limit [] offers c → Survived p limit offers c
      go (checked survivors t) h = (found-survive offers survivors h.0, h.1)
      go (broken_off survivors t) h = (h.0, h.1, h.2, found-survive h.0 survivors h.3, h.4)

-- what was offered first was offered
offered-first : (p : Plant) (done rest : List Offer) (survivors : List Assignment) → Among survivors (offered_in p done) → Among survivors (offered_in p (done ++ rest))
offered-first p done rest survivors h = rw (offered_in, keep_join _ done rest, map-append _ _ _) (among-left survivors _ _ h)

module _ (p : Plant) (o : Order) (law : Lawful (decision_sizes p) o) (present : VariablesPresent p) (sized : All (λ m. 1 ≤ m) (decision_sizes p)) (k limit : ℕ) where
  -- at the start of step 3 nothing has been listed, tested or learned
  pub start-going : (survivors : List Assignment) (used : ℕ) → All (Conflict p) survivors → Pairs Neither survivors → used ≤ limit → Going p o k limit survivors (start (decision_sizes p) survivors used)
  unfolding start
  start-going survivors used a apart h = record {
    kept = record {
      searching = searching-start p o law;
      shown = tt;
      store = stored-start p survivors a apart;
      sum = refl;
      tested = omega arith;
      trials = h;
      listed = omega arith;
    };
    unstruck = refl;
  }

  -- every listing with room for the empty assignment ends in one of the four endings, and what it ends with is as it should be
  pub listing-done : (entries places : ℕ) → 1 ≤ entries → (offers : List Offer)
      → (survivors : List Assignment) × (e : Ending) × (s : State) × (listing p o k entries places offers limit ≡ ended e s) × Done p o k limit survivors entries e s × FromOffers p offers e survivors
  unfolding listing start enough_steps
  listing-done entries places room offers = go (check_offers p limit [] offers 0) refl (offers-survive p present limit offers)
    where
      go : (c : Checked) → check_offers p limit [] offers 0 ≡ c → Survived p limit offers c
          → (survivors : List Assignment) × (e : Ending) × (s : State) × (listing p o k entries places offers limit ≡ ended e s) × Done p o k limit survivors entries e s × FromOffers p offers e survivors
      go (checked survivors used) q h =
          let v = h.0 in
          let r = run-done p o law present k entries places limit survivors sized (enough_steps (decision_sizes p)) (start (decision_sizes p) survivors used)
          (omega arith) (start-going survivors used v.conflicts v.apart h.1) (omega arith) in
          (survivors, r.0, r.1, rw (listing, q) r.2, r.3, record { offered = v.offered; remembered = λ n. v.remembered })
      go (broken_off survivors used) q h =
          let v = h.3 in (
            survivors,
            Ending.spent,
            start (decision_sizes p) survivors used,
            rw (listing, q),
            spent-done p o law present k entries places limit survivors
                (start (decision_sizes p) survivors used) (start-going survivors used v.conflicts v.apart (omega (arith, h.4))).kept (inl h.4),
            record { offered = rw h.2 (offered-first p h.0 h.1 survivors v.offered); remembered = λ n. absurd (n refl) },
          )

-- From the sheet to the model's call of either edition: the refusals, the run with its figures filled in, and the promise. Assumes nothing.
use mathlib.Core.Path.{◌≡◌, refl, sym, ap, ◌∙◌, subst}
use mathlib.Core.Bool.{Bool, true, false}
use mathlib.Core.List.{List, map}
use mathlib.Core.Option.{none, some}
use Prim.Native.Nat.{ℕ, ◌*◌, ◌≤◌, ◌<◌}
use native.Mathlib.Omega.{arith}
use lib.ListN.{length, get_or, take, length-map}
use Rattle.model.specs.Lists.{All, filled}
use Rattle.model.specs.Digits.{digits}
use Rattle.model.specs.Sheet.{Plant, Read, edition_of, read_sheet, decision_sizes}
use Rattle.model.specs.Assignment.{Fits, code}
use Rattle.model.specs.Order.{Order, figure_of, order_of}
use Rattle.model.specs.Listing.{State, Ending, ended}
use Rattle.model.specs.Calls.{by_host, by_author, Buffers, Counts, first_given, host_grounds, buffers_after, run_of, called_of, refusing, answered, ran, listing_with, listing_call}
use Rattle.theory.specs.Plant.{Accepted}
use Rattle.theory.specs.Words.{sixteens}
use Rattle.theory.specs.Demand3.{PromisedBy}
use Rattle.theory.proofs.Lists.{all_map}
use Rattle.theory.proofs.Filled.{filled_take, filled_length}
use Rattle.theory.proofs.Bounds.{few-weighed}
use Rattle.theory.proofs.Sheet.{accepted_any}
use Rattle.theory.proofs.Value.{edition-few}
use Rattle.theory.proofs.Demand3.{queue-given, call-done, promised}
use Rattle.figures.specs.Weights.{ReadsWeights}
use Rattle.figures.proofs.Listed.{listed-figures, listed-weights}
use Rattle.refusal.specs.declared.Refusal.{Refusal}
use Rattle.std.specs.Prelude.{Result, Ok, Err}
use Rattle.judge.specs.Standing.{ending_of}
use Rattle.listing.specs.declared.Ran.{Ran}
use Rattle.listing.specs.Listing.{buffers, answer_of, CalledAs}
use Rattle.listing_call.specs.Calls.{shown, Promises}
use Rattle.listing_call.specs.Listed.{RefusedOn, RanOn}
use Rattle.listing_call.proofs.Refusing.{room_of, figures-room}

-- ---- refusals

module _ (w : Bool) (sheet : List ℕ) (k : ℕ) (b : Buffers) (held limit : ℕ) (short : Bool) where
  -- a ground that is given: the host is refused
  pub host_refused : {n : ℕ} → some n ≡ first_given (host_grounds k b held short) → listing_with (edition_of w) sheet k b held limit short ≡ refusing b (by_host n)
  unfolding listing_with
  host_refused e = rw (listing_with, ← e) refl

  -- the sheet is refused
  pub author-refused : none ≡ first_given (host_grounds k b held short) → {n : ℕ} → read_sheet (edition_of w) sheet ≡ Read.refused n
      → listing_with (edition_of w) sheet k b held limit short ≡ refusing b (by_author n)
  unfolding listing_with
  author-refused ok e = rw (listing_with, ← ok, e) refl

-- a call for no state is refused by the host's first ground
pub none_wanted : (w : Bool) (sheet : List ℕ) (k : ℕ) (b : Buffers) (held limit : ℕ) (short : Bool) → k ≡ 0 → listing_with (edition_of w) sheet k b held limit short ≡ refusing b (by_host 1)
unfolding first_given host_grounds
none_wanted w sheet k b held limit short e = host_refused w sheet k b held limit short (rw (e, host_grounds))

-- a refused call is answered as the model's, with every lent buffer as it was
pub refused-called : {w : Bool} {sheet : List ℕ} {k held limit : ℕ} {short : Bool} {figures : ℕ} {codes values queue store codes' values' queue' store' : List ℕ} {r : Refusal} (costs : List ℕ) → length costs ≡ figures
    → RefusedOn w sheet k held limit short figures codes values queue store codes' values' queue' store' r
    → CalledAs (Err r) (buffers codes' costs values' queue' store') (listing_with (edition_of w) sheet k (buffers codes costs values queue store) held limit short)
refused-called costs e t = rw (t.refuses costs e, t.codes-kept, t.values-kept, t.queue-kept, t.store_kept) (record { answer-is = refl; after_is = refl })

-- ---- the run, and its figures

-- buffers are the same where each is
buffers-same : {c d v q s c' d' v' q' s' : List ℕ} → c ≡ c' → d ≡ d' → v ≡ v' → q ≡ q' → s ≡ s' → buffers c d v q s ≡ buffers c' d' v' q' s'
buffers-same e f g h i = rw (e, f, g, h, i) refl

-- two endings of one run have one state
one_state : (e f : Ending) (s t : State) → ended e s ≡ ended f t → s ≡ t
one_state e f s t h = cc

module _ {w : Bool} {sheet : List ℕ} {k held limit : ℕ} {short : Bool} {figures : ℕ} {codes values queue store codes' values' queue' store' prices : List ℕ} {d : ℕ} {r : Ran}
    (t : RanOn w sheet k held limit short figures codes values queue store codes' values' queue' store' prices d r) (costs : List ℕ) (long : length costs ≡ figures) where
  abbrev p : Plant
  p = t.plant

  abbrev o : Order
  o = order_of (edition_of w) p

  abbrev b : Buffers
  b = buffers codes costs values queue store

  abbrev listed : List (List ℕ)
  listed = t.ran.state.listed

  accepted : Accepted (edition_of w) p
  accepted = (accepted_any (edition_of w) sheet p t.end t.says).0

  -- what holds at the run's end
  done : (e : Ending) × ((s : State) × (t.ran.state ≡ s) × (length s.listed ≤ k) × All (Fits (decision_sizes p)) s.listed)
  unfolding run_of
  done =
      let c = call-done w sheet p t.end t.says k b (queue-given k b held short (t.fit costs long)) held limit in
      (c.1, (c.2, one_state _ _ _ _ (sym t.ran.ends ∙ c.3), c.4.kept.listed, all_map (λ f g. g.0) c.2.listed c.4.kept.searching.search.good))

  listed-is : r.counts.listed ≡ length listed
  listed-is = ap (λ (c : Counts). c.listed) t.ran.counts-are

  -- no more than k are listed, so that there is room for their codes and their figures
  pub listed-most : r.counts.listed ≤ k
  listed-most = omega (arith, listed-is, ap (λ (s : State). length s.listed) done.1.1, done.1.2)

  no_ground_given : none ≡ first_given (host_grounds k b held short)
  no_ground_given = sym (t.fit costs long)

  pub costs-places : r.counts.listed ≤ length costs
  costs-places = omega (arith, listed-most, figures-room k b held short no_ground_given)

  -- they are within the domains
  all_fit : All (Fits (decision_sizes p)) listed
  all_fit = subst (λ (s : State). All (Fits (decision_sizes p)) s.listed) (sym done.1.1) done.1.3

  -- the first codes are theirs
  first-codes : take r.counts.listed codes' ≡ map code listed
  first-codes = ap (take r.counts.listed) t.ran.codes-are ∙ ap (λ (n : ℕ). take n (filled (map code listed) codes)) (listed-is ∙ sym (length-map listed code)) ∙ filled_take (map code listed) codes

  pub codes-places : r.counts.listed ≤ length codes'
  codes-places =
      let room = room_of k b held short no_ground_given in
      let same : length codes' ≡ length codes = ap length t.ran.codes-are ∙ filled_length (map code listed) codes (omega (arith, length-map listed code, listed-is, listed-most, room.codes-room)) in
      omega (arith, same, listed-most, room.codes-room)

  -- the table has room for the decision variables, of which there are sixteen at most, with weights eight
  pub few-decisions : d ≤ 16
  few-decisions = rw t.count at (edition-few w p accepted)

  pub few_with_weights : w ≡ true → d ≤ 8
  few_with_weights e = rw t.count at (few-weighed p (subst (λ (u : Bool). Accepted (edition_of u) p) e accepted))

  pub prices_room : 16 * d ≤ length prices
  prices_room = omega (arith, few-decisions, t.long)

  -- with weights, what is read of each code is below 256
  pub listed-reads : w ≡ true → (i : ℕ) → i < r.counts.listed → ReadsWeights d prices (get_or codes' i 0)
  listed-reads e i h = subst (λ (m : ℕ). ReadsWeights m prices (get_or codes' i 0)) t.count
      (listed-weights w p prices accepted t.has-rows e listed all_fit codes' (ap (λ (m : ℕ). take m codes') (sym listed-is) ∙ first-codes) i (omega (arith, listed-is)))

  -- the figures by the table are the order's
  figures-are : map (λ c. figure_of w (sixteens d prices) (digits 16 16 c)) (map code listed) ≡ map o.figure listed
  figures-are = subst (λ (m : ℕ). map (λ c. figure_of w (sixteens m prices) (digits 16 16 c)) (map code listed) ≡ map o.figure listed) t.count
      (listed-figures w p prices accepted t.has-rows listed all_fit)

  -- with the figures of the first codes filled in, the call is answered as the model's
  pub figures-called : (costs' : List ℕ) → costs' ≡ filled (map (λ c. figure_of w (sixteens d prices) (digits 16 16 c)) (take r.counts.listed codes')) costs
      → CalledAs (Ok r) (buffers codes' costs' values' queue' store') (listing_with (edition_of w) sheet k b held limit short)
  unfolding listing_with run_of called_of buffers_after
  figures-called costs' e =
      let f : costs' ≡ filled (map o.figure listed) costs =
      e ∙ ap (λ (xs : List ℕ). filled xs costs) (ap (map (λ c. figure_of w (sixteens d prices) (digits 16 16 c))) first-codes ∙ figures-are) in
      rw (listing_with, t.fit costs long, t.says, run_of, t.ran.ends) (record {
        answer-is = ap (λ (c : Counts). answered (ran (ending_of r.ending) c)) t.ran.counts-are;
        after_is = buffers-same t.ran.codes-are f t.ran.values-are t.ran.queue-is t.ran.store_is;
      })

-- ---- the promise

-- an answer and buffers that are those of the model's call keep its promise
pub kept : (w : Bool) (sheet : List ℕ) (k : ℕ) (b : Buffers) (held limit : ℕ) (short : Bool) {r : Result Ran Refusal} {after : Buffers} → CalledAs r after (listing_with (edition_of w) sheet k b held limit short)
    → PromisedBy (edition_of w) sheet k b held limit (answer_of r) after (listing_with (edition_of w) sheet k b held limit short).struck
kept w sheet k b held limit short h = rw (h.answer-is, h.after_is) (promised w sheet k b held limit short)

module _ (sheet : List ℕ) (k : ℕ) (b : Buffers) (held limit : ℕ) {r : Result Ran Refusal} {after : Buffers} (h : CalledAs r after (listing_with (edition_of false) sheet k b held limit false)) where
  pub called-shown : shown (listing_call sheet k b held limit) ≡ (answer_of r, after)
  unfolding listing_call
  called-shown = rw (h.answer-is, h.after_is)

  pub called-promised : Promises sheet k b held limit r after
  unfolding listing_call
  called-promised = kept false sheet k b held limit false h

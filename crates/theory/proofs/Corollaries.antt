-- Two runs on one sheet, whatever else differs, never contradict each other: for any two lists that begin the sheet's whole set, and so for the model's calls. Assumes nothing.
use mathlib.Core.Path.{◌≡◌, refl, sym, ◌∙◌, ap, subst}
use mathlib.Core.Logic.{inl, inr}
use mathlib.Core.Bool.{Bool}
use mathlib.Core.Option.{Option, none, some}
use mathlib.Core.List.{List, [], ◌∷◌, ◌++◌, append-nil}
use Prim.Native.Nat.{ℕ, ◌/◌, ◌≤◌}
use native.Mathlib.Omega.{arith}
use native.Mathlib.Decide.{dec_le}
use lib.ListN.{length, length-append}
use Rattle.model.specs.Lists.{Begins}
use Rattle.model.specs.Sheet.{Plant, got, Edition, edition_of, read_sheet, decision_sizes}
use Rattle.model.specs.Assignment.{full}
use Rattle.model.specs.Order.{Entry, product, whole_set, order_of}
use Rattle.model.specs.Listing.{Ending, enough, all}
use Rattle.model.specs.Calls.{Answer, answered, Buffers, Counts, ran, first_given, host_grounds, run_list, counts_of, called_of, listing_with}
use Rattle.theory.specs.Demand3.{Demand3, PromisedBy}
use Rattle.theory.specs.Shown.{ShownAt, ShownOn, SameValues}
use Rattle.theory.specs.TwoRuns.{ListOn, NoContradiction}
use Rattle.theory.proofs.Nodes.{rooms_length}
use Rattle.theory.proofs.Run.{differ}
use Rattle.theory.proofs.Shown.{shows-unique}
use Rattle.theory.proofs.Order.{code_injective}
use Rattle.theory.proofs.Demand3.{queue-given, sheet-codes, sheet-small, sheet-at-least, call-done, promised}

-- of two lists that begin a third, the shorter begins the longer
begins-both : {A : Type 0} (xs ys zs : List A) → Begins xs zs → Begins ys zs → length xs ≤ length ys → Begins xs ys
begins-both [] ys zs b c h = (ys, refl)
begins-both (x ∷ xs) [] zs b c h = absurd (omega arith)
begins-both (x ∷ xs) (y ∷ ys) [] b c h = absurd (let z : ◌≡◌ {A = ℕ} 0 1 = cc b.1 in omega arith)
begins-both (x ∷ xs) (y ∷ ys) (z ∷ zs) b c h =
    let p = b.1 in
    let q = c.1 in
    let r = begins-both xs ys zs (b.0, cc) (c.0, cc) (omega arith) in
    let s = r.1 in
    (r.0, cc)

-- a list that begins one of its own length is that list
begins-equal : {A : Type 0} (xs ys : List A) → Begins xs ys → length xs ≡ length ys → xs ≡ ys
begins-equal xs ys b h = go b.0 b.1
  where
    go : (rest : List _) → ys ≡ xs ++ rest → xs ≡ ys
    go [] e = sym (e ∙ append-nil xs)
    go (z ∷ zs) e = absurd (omega (arith, ap length e ∙ length-append xs (z ∷ zs)))

-- two readings of one sheet give one plant
one-plant : (e : Edition) (sheet : List ℕ) (p q : Plant) (m n : ℕ) → read_sheet e sheet ≡ got p m → read_sheet e sheet ≡ got q n → p ≡ q
one-plant e sheet p q m n d h = cc

module _ (w : Bool) {sheet : List ℕ} where
  module _ {m n : ℕ} {xs ys : List Entry} (a : ListOn (edition_of w) sheet m xs) (b : ListOn (edition_of w) sheet n ys) where
    shorter : m ≤ n → Begins xs ys
    shorter h = begins-both xs ys (whole_set a.plant (order_of (edition_of w) a.plant)) a.begins
        (rw (one-plant (edition_of w) sheet a.plant b.plant a.end b.end a.says b.says) b.begins) (omega (arith, a.long, b.long))

    equal : m ≡ n → xs ≡ ys
    equal h = begins-equal xs ys (shorter (omega arith)) (omega (arith, a.long, b.long))

  -- lists that begin the whole set of one sheet
  pub no_contradiction : {m n : ℕ} {xs ys : List Entry} → ListOn (edition_of w) sheet m xs → ListOn (edition_of w) sheet n ys → NoContradiction m n xs ys
  no_contradiction {m} {n} a b = record {
    one-begins = elim (dec_le m n) [ yes h ↦ inl (shorter a b h) | no h ↦ inr (shorter b a (omega arith)) ];
    shorter-begins = shorter a b;
    equal-same = equal a b;
  }

  -- the list of a run that keeps the promise
  pub promised-list : {k held limit : ℕ} {before after : Buffers} {e : Ending} {c : Counts} {struck : Bool} → PromisedBy (edition_of w) sheet k before held limit (answered (ran e c)) after struck
      → ListOn (edition_of w) sheet c.listed (run_list c.listed after)
  promised-list h = record { plant = h.0; end = h.1; says = h.2; begins = h.3.begins; long = h.3.as_counted }

  -- what is shown is a function of the sheet and the state: where two runs on one sheet list a state, they show the same values for it, whatever else differs
  pub same-values : {m n : ℕ} {b c : Buffers} → ShownOn (edition_of w) sheet m b → ShownOn (edition_of w) sheet n c → SameValues m n b c
  same-values {c = c} s t i j h k e =
      let plants : t.plant ≡ s.plant = one-plant (edition_of w) sheet t.plant s.plant t.end s.end t.says s.says in
      let x = s.shown i h in
      let y : ShownAt s.plant c j = rw plants at (t.shown j k) in
      let states : y.0 ≡ x.0 = code_injective (decision_sizes s.plant) y.0 x.0 (sheet-codes w sheet s.plant s.end s.says) (sheet-small w sheet s.plant s.end s.says) y.1 x.1 (sym y.2 ∙ sym e ∙ x.2) in
      shows-unique s.plant (full x.0) _ _ x.3 (rw states at y.3)

  -- what a run that keeps the promise shows
  pub promised-values : {k held limit : ℕ} {before after : Buffers} {e : Ending} {c : Counts} {struck : Bool} → PromisedBy (edition_of w) sheet k before held limit (answered (ran e c)) after struck → ShownOn (edition_of w) sheet c.listed after
  promised-values h = record { plant = h.0; end = h.1; says = h.2; shown = h.3.shown }

-- a run: an edition's listing call on this sheet, with its answer, its counts and its list
pub record RunOn (w : Bool) (sheet : List ℕ) : Type 0 where
  pub k : ℕ
  pub before : Buffers
  pub held : ℕ
  pub limit : ℕ
  pub result_short : Bool
  pub ending : Ending
  pub counts : Counts
  pub answers : (listing_with (edition_of w) sheet k before held limit result_short).answer ≡ answered (ran ending counts)

-- the buffers after a run, and its list
abbrev pub after_run : {w : Bool} {sheet : List ℕ} → RunOn w sheet → Buffers
after_run {w} {sheet} r = (listing_with (edition_of w) sheet r.k r.before r.held r.limit r.result_short).after

abbrev pub list_of : {w : Bool} {sheet : List ℕ} → RunOn w sheet → List Entry
list_of r = run_list r.counts.listed (after_run r)

module _ (w : Bool) (sheet : List ℕ) where
  -- demand 3 of a run
  pub run-promise : (r : RunOn w sheet) → (p : Plant) × (end : ℕ) × (read_sheet (edition_of w) sheet ≡ got p end)
      × Demand3 p (order_of (edition_of w) p) r.k r.before r.held r.limit r.ending r.counts (after_run r) (listing_with (edition_of w) sheet r.k r.before r.held r.limit r.result_short).struck
  run-promise r = subst (λ (a : Answer). PromisedBy (edition_of w) sheet r.k r.before r.held r.limit a (after_run r) (listing_with (edition_of w) sheet r.k r.before r.held r.limit r.result_short).struck)
      r.answers (promised w sheet r.k r.before r.held r.limit r.result_short)

  module _ (r s : RunOn w sheet) where
    -- two runs of the listing call
    pub two_runs : NoContradiction r.counts.listed s.counts.listed (list_of r) (list_of s)
    two_runs = no_contradiction w (promised-list w (run-promise r)) (promised-list w (run-promise s))

    -- where they list one state, they show the same values
    pub two-shown : SameValues r.counts.listed s.counts.listed (after_run r) (after_run s)
    two-shown = same-values w (promised-values w (run-promise r)) (promised-values w (run-promise s))

    -- two runs that both end 'all' have one list
    pub all_same : r.ending ≡ all → s.ending ≡ all → list_of r ≡ list_of s
    all_same d e =
        let a = run-promise r in
        let b = run-promise s in
        a.3.all_whole d ∙ ap (λ (p : Plant). whole_set p (order_of (edition_of w) p)) (one-plant (edition_of w) sheet a.0 b.0 a.1 b.1 a.2 b.2) ∙ sym (b.3.all_whole e)

  -- a queue with as many entries as the product of the sizes never ends 'full'
  pub never_full : (r : RunOn w sheet) (p : Plant) (end : ℕ) → read_sheet (edition_of w) sheet ≡ got p end → product (decision_sizes p) ≤ length r.before.queue / 2 → r.ending ≡ Ending.full → ⊥
  never_full r p end e h f =
      let a = run-promise r in
      let q = one-plant (edition_of w) sheet a.0 p a.1 end a.2 e in
      omega (arith, rw q at (a.3.full-small f))

  -- and a run with k as large as that product never ends 'enough': a node would be left, and in it a full assignment that is not listed
  pub never_enough : (r : RunOn w sheet) (p : Plant) (end : ℕ) → read_sheet (edition_of w) sheet ≡ got p end → product (decision_sizes p) ≤ r.k → r.ending ≡ enough → ⊥
  unfolding listing_with called_of
  never_enough r p end says h f = go (first_given (host_grounds r.k r.before r.held r.result_short)) refl
    where
      go : (g : Option ℕ) → first_given (host_grounds r.k r.before r.held r.result_short) ≡ g → ⊥
      go (some n) q = let a = rw (listing_with, q) at r.answers in differ (cc)
      go none q =
          let d = call-done w sheet p end says r.k r.before (queue-given r.k r.before r.held r.result_short q) r.held r.limit in
          let a : answered (ran d.1 (counts_of d.2)) ≡ answered (ran r.ending r.counts) = rw (listing_with, q, says, d.3) at r.answers in
          let e : d.1 ≡ enough = cc in
          omega (arith, d.4.enough-listed e, d.4.enough-left e, d.4.kept.searching.roomy, rooms_length (decision_sizes p) d.2.queue (sheet-at-least w sheet p end says))

-- A learned conflict and those stored: it contains none of them, and of those learned before none contains it. Assumes nothing.
use mathlib.Core.Path.{◌≡◌, refl, sym, ap, ◌∙◌}
use mathlib.Core.Bool.{Bool, true, false, not, ◌&&◌, ◌||◌, and-eq-true_iff, false≢true}
use mathlib.Core.Option.{Option, none, some}
use mathlib.Core.List.{List, [], ◌∷◌, ◌++◌, append-nil, append_assoc}
use Prim.Native.Nat.{ℕ, suc, ◌+◌, ◌<◌}
use native.Mathlib.Omega.{arith}
use native.Mathlib.Decide.{dec_lt}
use borrow.Author.Tests.{eq-eqb, eqb-true}
use lib.Dec.{eqb}
use lib.ListN.{length, get_or, set, length-append, length-set}
use Rattle.model.specs.Lists.{All, Pairs, keep}
use Rattle.model.specs.Sheet.{Plant, decision_sizes}
use Rattle.model.specs.Assignment.{Assignment, Valid, is_some}
use Rattle.model.specs.Conflict.{Conflict, Minimal, contains, manifests, differs, resolves}
use Rattle.model.specs.Listing.{Offer, first_unresolved, stored}
use Rattle.theory.specs.Store.{Neither, ContainsOne, Long, offered_in, Remembered}
use Rattle.theory.specs.Run.{Stored}
use Rattle.theory.proofs.Lists.{all_map, all_join, all_right, all-zip, keep_all, from-members, member_some, pairs-at}
use Rattle.theory.proofs.Children.{keep_join}
use Rattle.theory.proofs.Agreement.{valid_length}
use Rattle.theory.proofs.Containment.{manifests_self, consistent-manifests}
use Rattle.theory.proofs.Store.{not_so, among_self, among-keep, among_trans, among-all, manifests_trans, stored-contains, stored-apart, contains_through}

-- ---- a node that resolves conflicts

-- a node that resolves a conflict does not manifest it
pub resolved_free : (n c : Assignment) → resolves n c ≡ true → manifests n c ≡ true → ⊥
resolved_free [] c r m = false≢true r
resolved_free (o ∷ n) [] r m = false≢true r
resolved_free (o ∷ n) (d ∷ c) r m = let h = (and-eq-true_iff (contains o d) (manifests n c)).0 m in go o d r h.0 (resolved_free n c) h.1
  where
    other : (x y : ℕ) (b : Bool) → eqb x y ≡ b → b ≡ true → (not b || resolves n c) ≡ true → resolves n c ≡ true
    other x y true e f r = r
    other x y false e f r = absurd (false≢true f)

    go : (o d : Option ℕ) → (differs o d || resolves n c) ≡ true → contains o d ≡ true → (resolves n c ≡ true → manifests n c ≡ true → ⊥) → manifests n c ≡ true → ⊥
    go none d r h ih m = ih r m
    go (some x) none r h ih m = ih r m
    go (some x) (some y) r h ih m = ih (other x y (eqb x y) refl h r) m

-- where no stored conflict is unresolved, the node resolves each
pub all_resolved : (n : Assignment) (store : List Assignment) → first_unresolved store n ≡ none → All (λ s. resolves n s ≡ true) store
all_resolved n [] e = tt
all_resolved n (c ∷ store) e = go (resolves n c) refl (all_resolved n store)
  where
    go : (b : Bool) → resolves n c ≡ b → (first_unresolved store n ≡ none → All (λ s. resolves n s ≡ true) store) → (resolves n c ≡ true) × All (λ s. resolves n s ≡ true) store
    go true f ih = (f, ih (rw (first_unresolved, f) at e))
    go false f ih = let h : some c ≡ none = rw (first_unresolved, f) at e in let z : ◌≡◌ {A = ℕ} 0 1 = cc in absurd (omega arith)

-- what a node contains that resolves each stored conflict contains none of them
pub learned-contains-none : (d : ℕ) (n c : Assignment) (store : List Assignment) → length n ≡ d → length c ≡ d → Long d store → first_unresolved store n ≡ none → manifests n c ≡ true
    → All (λ s. manifests c s ≡ false) store
learned-contains-none d n c store ln lc long e m =
    all_map (λ s h. not_so (manifests c s) (λ k. resolved_free n s h.1 (manifests_trans n c s (omega arith) m k))) store
    (all-zip (λ s. length s ≡ d) (λ s. resolves n s ≡ true) store long (all_resolved n store e))

-- ---- a minimal conflict

-- an assignment that contains another, and is not contained in it, contains it also without one of its members
spared : (s c : Assignment) → length s ≡ length c → manifests s c ≡ true → manifests c s ≡ false
    → (v : ℕ) × (v < length s) × (is_some (get_or s v none) ≡ true) × (manifests (set s v none) c ≡ true)
spared [] [] l m k = absurd (false≢true (sym k))
spared [] (d ∷ c) l m k = absurd (omega arith)
spared (o ∷ s) [] l m k = absurd (omega arith)
spared (o ∷ s) (d ∷ c) l m k =
    let h = (and-eq-true_iff (contains o d) (manifests s c)).0 m in
    go o d h.0 (manifests c s) refl (spared s c (omega arith) h.1) k
  where
    tail : manifests s c ≡ true
    tail = ((and-eq-true_iff (contains o d) (manifests s c)).0 m).1

    later : (o d : Option ℕ) → contains o d ≡ true → (v : ℕ) × (v < length s) × (is_some (get_or s v none) ≡ true) × (manifests (set s v none) c ≡ true)
        → (v : ℕ) × (v < length (o ∷ s)) × (is_some (get_or (o ∷ s) v none) ≡ true) × (manifests (set (o ∷ s) v none) (d ∷ c) ≡ true)
    later o d h r = (suc r.0, omega (arith, r.1), r.2, (and-eq-true_iff (contains o d) (manifests (set s r.0 none) c)).1 (h, r.3))

    go : (o d : Option ℕ) → contains o d ≡ true → (b : Bool) → manifests c s ≡ b
        → (manifests c s ≡ false → (v : ℕ) × (v < length s) × (is_some (get_or s v none) ≡ true) × (manifests (set s v none) c ≡ true))
        → (contains d o && manifests c s) ≡ false
        → (v : ℕ) × (v < length (o ∷ s)) × (is_some (get_or (o ∷ s) v none) ≡ true) × (manifests (set (o ∷ s) v none) (d ∷ c) ≡ true)
    go o d h false e ih k = later o d h (ih e)
    go none none h true e ih k = absurd (false≢true (sym k ∙ e))
    go none (some y) h true e ih k = absurd (false≢true h)
    go (some x) none h true e ih k = (0, omega arith, refl, tail)
    go (some x) (some y) h true e ih k = absurd (false≢true (sym k ∙ (and-eq-true_iff (eqb y x) (manifests c s)).1 (eq-eqb y x (sym (eqb-true x y h)), e)))

module _ (p : Plant) where
  conflict_length : (c : Assignment) → Conflict p c → length c ≡ length (decision_sizes p)
  conflict_length c k = valid_length (decision_sizes p) c k.valid

  -- a minimal conflict contains no conflict but itself
  pub minimal-contains : (s c : Assignment) → Minimal p s → Conflict p c → manifests s c ≡ true → manifests c s ≡ true
  minimal-contains s c h k m = go (manifests c s) refl
    where
      ls : length s ≡ length (decision_sizes p)
      ls = conflict_length s h.conflict

      lc : length c ≡ length (decision_sizes p)
      lc = conflict_length c k

      go : (b : Bool) → manifests c s ≡ b → manifests c s ≡ true
      go true e = e
      go false e =
          let r = spared s c (omega (arith, ls, lc)) m e in
          absurd (k.inconsistent (consistent-manifests p (set s r.0 none) c (length-set s r.0 none ∙ omega (arith, ls, lc)) r.3 (h.needed r.0 r.1 r.2)))

  -- ---- the store

  -- each stored entry is a conflict
  pub stored-conflicts : {survivors : List Assignment} {learned : ℕ} {store : List Assignment} → Stored p survivors learned store → All (Conflict p) store
  stored-conflicts {survivors} s = rw s.parts
      (all_join (Conflict p) s.left s.since (among-all (Conflict p) s.left survivors s.among s.offered) (all_map (λ c m. m.conflict) s.since s.minimal))

  pub long-conflicts : (store : List Assignment) → All (Conflict p) store → Long (length (decision_sizes p)) store
  long-conflicts store a = all_map conflict_length store a

  -- at first the store is the survivors of step 1
  pub stored-start : (survivors : List Assignment) → All (Conflict p) survivors → Pairs Neither survivors → Stored p survivors 0 survivors
  stored-start survivors a apart = record {
    left = survivors;
    since = [];
    parts = sym (append-nil survivors);
    count = refl;
    offered = a;
    among = among_self survivors;
    minimal = tt;
    apart = apart;
    covers = from-members survivors (λ x m. member_some (λ s. manifests x s ≡ true) survivors x m (manifests_self x));
  }

  -- a conflict is learned of a node that resolves all that are stored: only survivors give way to it, and those learned before all stay
  pub stored_more : {survivors : List Assignment} {learned : ℕ} {store : List Assignment} (n c : Assignment) → Valid (decision_sizes p) n → first_unresolved store n ≡ none
      → manifests n c ≡ true → Minimal p c → Stored p survivors learned store → Stored p survivors (learned + 1) (stored store c)
  stored_more {survivors} {learned} {store} n c valid e m h s = record {
    left = keep test s.left;
    since = s.since ++ (c ∷ []);
    parts = ap (λ (r : List Assignment). keep test r ++ (c ∷ [])) s.parts
        ∙ ap (λ (r : List Assignment). r ++ (c ∷ [])) (keep_join test s.left s.since ∙ ap (λ (r : List Assignment). keep test s.left ++ r) (keep_all test s.since stay))
        ∙ append_assoc (keep test s.left) s.since (c ∷ []);
    count = simp length-append (omega (arith, s.count));
    offered = s.offered;
    among = among_trans (keep test s.left) s.left survivors (among-keep test s.left) s.among;
    minimal = all_join (Minimal p) s.since (c ∷ []) s.minimal (h, tt);
    apart = stored-apart store c long lc s.apart free;
    covers = all_map (λ x k. stored-contains store c long lc x k.0 k.1) survivors
        (all-zip (λ x. length x ≡ length (decision_sizes p)) (ContainsOne store) survivors (long-conflicts survivors s.offered) s.covers);
  }
    where
      test : Assignment → Bool
      test x = not (manifests x c)

      long : Long (length (decision_sizes p)) store
      long = long-conflicts store (stored-conflicts s)

      lc : length c ≡ length (decision_sizes p)
      lc = conflict_length c h.conflict

      free : All (λ x. manifests c x ≡ false) store
      free = learned-contains-none (length (decision_sizes p)) n c store (valid_length (decision_sizes p) n valid) lc long e m

      -- one that was learned contains the new one only if it is contained in it, and that no stored one is
      stay : All (λ x. test x ≡ true) s.since
      stay = all_map (λ x k. ap not (not_so (manifests x c) (λ j. false≢true (sym k.1 ∙ minimal-contains x c k.0 h.conflict j)))) s.since
          (all-zip (Minimal p) (λ x. manifests c x ≡ false) s.since s.minimal (all_right (λ x. manifests c x ≡ false) s.left s.since (rw s.parts at free)))

  module _ {survivors : List Assignment} {learned : ℕ} {store : List Assignment} (s : Stored p survivors learned store) where
    -- no entry contains another, for any two places
    pub stored-places : (i j : ℕ) → i < length (s.left ++ s.since) → j < length (s.left ++ s.since) → (i ≡ j → ⊥)
        → manifests (get_or (s.left ++ s.since) i []) (get_or (s.left ++ s.since) j []) ≡ false
    stored-places i j hi hj d = elim (dec_lt i j) [ yes l ↦ (pairs-at [] Neither (s.left ++ s.since) apart i j l hj).0 | no m ↦ (pairs-at [] Neither (s.left ++ s.since) apart j i (omega arith) hi).1 ]
      where
        apart : Pairs Neither (s.left ++ s.since)
        apart = rw s.parts at s.apart

    -- what the survivors of step 1 remember the store remembers
    pub stored_remembers : (offers : List Offer) → Remembered p offers survivors → Remembered p offers store
    stored_remembers offers h = all_map
        (λ c f k. contains_through (length (decision_sizes p)) survivors store (long-conflicts survivors s.offered) (long-conflicts store (stored-conflicts s)) s.covers c (conflict_length c k) (f k))
        (offered_in p offers) h

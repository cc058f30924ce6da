-- Of conflicts found one after the other those that contain another go: what is left are the shortest, and nothing that was ruled out comes back. Assumes nothing.
use mathlib.Core.Path.{◌≡◌, refl, sym, ap, ap₂, ◌∙◌}
use mathlib.Core.Logic.{◌⊎◌, inl, inr}
use mathlib.Core.Bool.{Bool, true, false, not, ◌&&◌, ◌||◌, and-eq-true_iff, false≢true}
use mathlib.Core.Option.{Option, none, some}
use mathlib.Core.List.{List, [], ◌∷◌, ◌++◌, append-nil, append_assoc}
use Prim.Native.Nat.{ℕ}
use native.Mathlib.Omega.{arith}
use borrow.Author.Tests.{eq-eqb, eqb-true}
use lib.Dec.{T}
use lib.ListN.{length}
use Rattle.model.specs.Lists.{Some, All, Pairs, keep_if, keep, any_of}
use Rattle.model.specs.Assignment.{Assignment}
use Rattle.model.specs.Conflict.{contains, manifests}
use Rattle.model.specs.Listing.{manifests_any, stored, exceeds, shortest, survivors_of}
use Rattle.theory.specs.Store.{Among, Neither, ContainsOne, Long, Shortest, admitted}
use Rattle.theory.proofs.Lists.{some_right, some_cases, all_map, all_join, all_left, all_right, all-zip, all_keep, pairs-join, pairs-keep, kept, or_neither}
use Rattle.theory.proofs.BruteForce.{any_exactly}
use Rattle.theory.proofs.Search.{any_cons}
use Rattle.theory.proofs.Containment.{manifests_self}

-- ---- lists

-- what holds of some member, of which something else holds as of all
some_with : {A : Type 0} {R P Q : A → Type 0} → ((x : A) → R x → P x → Q x) → (xs : List A) → All R xs → Some P xs → Some Q xs
some_with h [] a s = s
some_with h (x ∷ xs) a (inl p) = inl (h x a.0 p)
some_with h (x ∷ xs) a (inr s) = inr (some_with h xs a.1 s)

-- some member of two lists in a row passes a test if one of either does
pub any_join : {A : Type 0} (test : A → Bool) (xs ys : List A) → any_of test (xs ++ ys) ≡ (any_of test xs || any_of test ys)
any_join test [] ys = refl
any_join test (x ∷ xs) ys = go (test x) (any_join test xs ys)
  where
    go : (b : Bool) → any_of test (xs ++ ys) ≡ (any_of test xs || any_of test ys)
        → ◌≡◌ {A = Bool} (elim b [ true ↦ true | false ↦ any_of test (xs ++ ys) ]) (elim b [ true ↦ true | false ↦ any_of test xs ] || any_of test ys)
    go true e = refl
    go false e = e

-- where no member passes a test, each fails it
pub any_fails : {A : Type 0} (test : A → Bool) (xs : List A) → any_of test xs ≡ false → All (λ x. test x ≡ false) xs
any_fails test [] e = tt
any_fails test (x ∷ xs) e = let h = or_neither (test x) (any_of test xs) (sym (any_cons test x xs) ∙ e) in (h.0, any_fails test xs h.1)

-- and the other way round
pub fails_any : {A : Type 0} (test : A → Bool) (xs : List A) → All (λ x. test x ≡ false) xs → any_of test xs ≡ false
fails_any test [] a = refl
fails_any test (x ∷ xs) a = any_cons test x xs ∙ ap₂ ◌||◌ a.0 (fails_any test xs a.1)

-- what is not true is false
pub not_so : (b : Bool) → (b ≡ true → ⊥) → b ≡ false
not_so true h = absurd (h refl)
not_so false h = refl

-- what passes the opposite of a test fails the test
pub fails_not : (b : Bool) → T (not b) → b ≡ false
fails_not true h = absurd h
fails_not false h = refl

-- ---- members in the same order

module _ {A : Type 0} where
  pub among_skip : (xs : List A) (y : A) (ys : List A) → Among xs ys → Among xs (y ∷ ys)
  among_skip [] y ys h = tt
  among_skip (x ∷ xs) y ys h = inr h

  pub among_self : (xs : List A) → Among xs xs
  among_self [] = tt
  among_self (x ∷ xs) = inl (refl, among_self xs)

  pub among_trans : (xs ys zs : List A) → Among xs ys → Among ys zs → Among xs zs
  among_trans [] ys zs h k = tt
  among_trans (x ∷ xs) [] zs h k = absurd h
  among_trans (x ∷ xs) (y ∷ ys) [] h k = absurd k
  among_trans (x ∷ xs) (y ∷ ys) (z ∷ zs) (inl h) (inl k) = inl (h.0 ∙ k.0, among_trans xs ys zs h.1 k.1)
  among_trans (x ∷ xs) (y ∷ ys) (z ∷ zs) (inr h) (inl k) = inr (among_trans (x ∷ xs) ys zs h k.1)
  among_trans (x ∷ xs) (y ∷ ys) (z ∷ zs) h (inr k) = inr (among_trans (x ∷ xs) (y ∷ ys) zs h k)

  -- what a test keeps
  pub among-keep : (test : A → Bool) (xs : List A) → Among (keep test xs) xs
  among-keep test [] = tt
  among-keep test (x ∷ xs) = go (test x) (among-keep test xs)
    where
      go : (b : Bool) → Among (keep test xs) xs → Among (keep_if b x (keep test xs)) (x ∷ xs)
      go true h = inl (refl, h)
      go false h = among_skip (keep test xs) x xs h

  -- the first part of a list
  pub among-left : (xs ys zs : List A) → Among xs ys → Among xs (ys ++ zs)
  among-left [] ys zs h = tt
  among-left (x ∷ xs) [] zs h = absurd h
  among-left (x ∷ xs) (y ∷ ys) zs (inl h) = inl (h.0, among-left xs ys zs h.1)
  among-left (x ∷ xs) (y ∷ ys) zs (inr h) = inr (among-left (x ∷ xs) ys zs h)

  -- what holds of some of them holds of some
  pub among_some : (P : A → Type 0) (xs ys : List A) → Among xs ys → Some P xs → Some P ys
  among_some P [] ys h s = absurd s
  among_some P (x ∷ xs) [] h s = absurd h
  among_some P (x ∷ xs) (y ∷ ys) (inl h) (inl p) = inl (rw h.0 at p)
  among_some P (x ∷ xs) (y ∷ ys) (inl h) (inr s) = inr (among_some P xs ys h.1 s)
  among_some P (x ∷ xs) (y ∷ ys) (inr h) s = inr (among_some P (x ∷ xs) ys h s)

  -- and what holds of all holds of them all
  pub among-all : (P : A → Type 0) (xs ys : List A) → Among xs ys → All P ys → All P xs
  among-all P [] ys h a = tt
  among-all P (x ∷ xs) [] h a = absurd h
  among-all P (x ∷ xs) (y ∷ ys) (inl h) a = (rw h.0 a.0, among-all P xs ys h.1 a.1)
  among-all P (x ∷ xs) (y ∷ ys) (inr h) a = among-all P (x ∷ xs) ys h a.1

-- ---- containment

contains_trans : (o d e : Option ℕ) → contains o d ≡ true → contains d e ≡ true → contains o e ≡ true
contains_trans o d none h k = refl
contains_trans o none (some z) h k = absurd (false≢true k)
contains_trans none (some y) (some z) h k = absurd (false≢true h)
contains_trans (some x) (some y) (some z) h k = eq-eqb x z (eqb-true x y h ∙ eqb-true y z k)

-- what is contained in something contained is contained
pub manifests_trans : (a b c : Assignment) → length a ≡ length b → manifests a b ≡ true → manifests b c ≡ true → manifests a c ≡ true
manifests_trans [] b c e h k = refl
manifests_trans (o ∷ a) [] c e h k = absurd (omega arith)
manifests_trans (o ∷ a) (d ∷ b) [] e h k = refl
manifests_trans (o ∷ a) (d ∷ b) (x ∷ c) e h k =
    let p = (and-eq-true_iff (contains o d) (manifests a b)).0 h in
    let q = (and-eq-true_iff (contains d x) (manifests b c)).0 k in
    (and-eq-true_iff (contains o x) (manifests a c)).1 (contains_trans o d x p.0 q.0, manifests_trans a b c (omega arith) p.1 q.1)

-- ---- one conflict more

-- a test that another settles makes no difference
settled : (a b e : Bool) → (e ≡ true → (a || b) ≡ true) → (a || (b || (e || false))) ≡ (a || b)
settled true b e h = refl
settled false true e h = refl
settled false false true h = sym (h refl)
settled false false false h = refl

-- either of two tests
pub or_left : (a b : Bool) → a ≡ true → (a || b) ≡ true
or_left a b e = rw e

pub or_right : (a b : Bool) → b ≡ true → (a || b) ≡ true
or_right true b e = refl
or_right false b e = e

module _ (d : ℕ) (c : Assignment) (long : length c ≡ d) where
  -- where a conflict that comes last contains one before it, nothing changes
  shortest-contains : (earlier found : List Assignment) → Long d (earlier ++ found) → manifests_any (earlier ++ found) c ≡ true → shortest earlier (found ++ (c ∷ [])) ≡ shortest earlier found
  shortest-contains earlier [] l e = let h : manifests_any earlier c ≡ true = rw append-nil at e in rw (or_left (manifests_any earlier c) (any_of (exceeds c) []) h)
  shortest-contains earlier (x ∷ found) l e =
      let assoc : (earlier ++ (x ∷ [])) ++ found ≡ earlier ++ (x ∷ found) = append_assoc earlier (x ∷ []) found in
      ap₂ (λ (b : Bool) (r : List Assignment). keep_if (not b) x r)
      (ap (λ (b : Bool). manifests_any earlier x || b) (any_join (exceeds x) found (c ∷ []) ∙ ap (λ (b : Bool). any_of (exceeds x) found || b) (any_cons (exceeds x) c []))
      ∙ settled (manifests_any earlier x) (any_of (exceeds x) found) (exceeds x c) dropped)
      (shortest-contains (earlier ++ (x ∷ [])) found (rw assoc l) (rw assoc e))
    where
      long-x : length x ≡ d
      long-x = (all_right (λ s. length s ≡ d) earlier (x ∷ found) l).0

      -- one that contains it properly contains that one too, and is dropped anyway
      dropped : exceeds x c ≡ true → (manifests_any earlier x || any_of (exceeds x) found) ≡ true
      dropped h = go (some_cases (λ s. manifests c s ≡ true) earlier (x ∷ found) ((any_exactly (manifests c) (earlier ++ (x ∷ found))).0 e))
        where
          parts : (manifests x c ≡ true) × (not (manifests c x) ≡ true)
          parts = (and-eq-true_iff (manifests x c) (not (manifests c x))).0 h

          outside : manifests c x ≡ true → ⊥
          outside k = false≢true (rw k at parts.1)

          inside : (s : Assignment) → length s ≡ d → manifests c s ≡ true → manifests x s ≡ true
          inside s m k = manifests_trans x c s (omega (arith, long-x)) parts.0 k

          go : Some (λ s. manifests c s ≡ true) earlier ⊎ ((manifests c x ≡ true) ⊎ Some (λ s. manifests c s ≡ true) found) → (manifests_any earlier x || any_of (exceeds x) found) ≡ true
          go (inl s) = or_left (manifests_any earlier x) (any_of (exceeds x) found)
              ((any_exactly (manifests x) earlier).1 (some_with inside earlier (all_left (λ s. length s ≡ d) earlier (x ∷ found) l) s))
          go (inr (inl k)) = absurd (outside k)
          go (inr (inr s)) = or_right (manifests_any earlier x) (any_of (exceeds x) found)
              ((any_exactly (exceeds x) found).1 (some_with
              (λ s m k. (and-eq-true_iff (manifests x s) (not (manifests s x))).1 (inside s m k, ap not (not_so (manifests s x) (λ j. outside (manifests_trans c s x (omega arith) k j)))))
              found (all_right (λ s. length s ≡ d) earlier (x ∷ found) l).1 s))

  -- where it contains none, those that contain it give way to it
  shortest-free : (earlier found : List Assignment) → manifests_any (earlier ++ found) c ≡ false → shortest earlier (found ++ (c ∷ [])) ≡ stored (shortest earlier found) c
  shortest-free earlier [] e = let h : manifests_any earlier c ≡ false = rw append-nil at e in rw h
  shortest-free earlier (x ∷ found) e =
      let assoc : (earlier ++ (x ∷ [])) ++ found ≡ earlier ++ (x ∷ found) = append_assoc earlier (x ∷ []) found in
      let free : manifests c x ≡ false = (all_right (λ s. manifests c s ≡ false) earlier (x ∷ found) (any_fails (manifests c) (earlier ++ (x ∷ found)) e)).0 in
      let last : exceeds x c ≡ (manifests x c && true) = ap (λ (b : Bool). manifests x c && not b) free in
      ap₂ (λ (b : Bool) (r : List Assignment). keep_if (not (manifests_any earlier x || b)) x r)
      (any_join (exceeds x) found (c ∷ []) ∙ ap (λ (b : Bool). any_of (exceeds x) found || b) (any_cons (exceeds x) c [] ∙ ap (λ (b : Bool). b || false) last))
      (shortest-free (earlier ++ (x ∷ [])) found (rw assoc e))
      ∙ go (manifests_any earlier x) (any_of (exceeds x) found) (manifests x c) refl (shortest (earlier ++ (x ∷ [])) found)
    where
      go : (a b m : Bool) → manifests x c ≡ m → (rest : List Assignment)
          → keep_if (not (a || (b || ((m && true) || false)))) x (stored rest c) ≡ stored (keep_if (not (a || b)) x rest) c
      go true b m e rest = refl
      go false true m e rest = refl
      go false false true e rest = rw e
      go false false false e rest = rw e

-- the shortest are among those found, in the same order
shortest-among : (earlier found : List Assignment) → Among (shortest earlier found) found
shortest-among earlier [] = tt
shortest-among earlier (x ∷ found) = go (not (manifests_any earlier x || any_of (exceeds x) found)) (shortest-among (earlier ++ (x ∷ [])) found)
  where
    go : (b : Bool) → Among (shortest (earlier ++ (x ∷ [])) found) found → Among (keep_if b x (shortest (earlier ++ (x ∷ [])) found)) (x ∷ found)
    go true h = inl (refl, h)
    go false h = among_skip (shortest (earlier ++ (x ∷ [])) found) x found h

-- ---- what is kept when a conflict comes in

module _ {d : ℕ} (kept' : List Assignment) (c : Assignment) (all-long : Long d kept') (long : length c ≡ d) where
  -- what contained one that is kept still contains one when those that contain it have given way to it
  pub stored-contains : (x : Assignment) → length x ≡ d → ContainsOne kept' x → ContainsOne (stored kept' c) x
  stored-contains x l s = go kept' all-long s
    where
      here : (y : Assignment) (store : List Assignment) → length y ≡ d → (ContainsOne store x → ContainsOne (stored store c) x)
          → (b : Bool) → manifests y c ≡ b → (manifests x y ≡ true) ⊎ ContainsOne store x → ContainsOne (stored (y ∷ store) c) x
      here y store a ih true e (inl m) = some_right (λ s. manifests x s ≡ true) (keep (λ s. not (manifests s c)) (y ∷ store)) (c ∷ [])
          (inl (manifests_trans x y c (omega arith) m e))
      here y store a ih false e (inl m) = rw e (inl m)
      here y store a ih true e (inr t) = rw e (ih t)
      here y store a ih false e (inr t) = rw e (inr (ih t))

      go : (store : List Assignment) → Long d store → ContainsOne store x → ContainsOne (stored store c) x
      go [] a s = absurd s
      go (y ∷ store) a s = here y store a.0 (go store a.1) (manifests y c) refl s

  -- where it contains none of them, no two contain one another
  pub stored-apart : Pairs Neither kept' → All (λ s. manifests c s ≡ false) kept' → Pairs Neither (stored kept' c)
  stored-apart p free =
      let test : Assignment → Bool = λ s. not (manifests s c) in
      pairs-join Neither (keep test kept') (c ∷ []) (pairs-keep Neither test kept' p) (tt, tt)
      (all_map (λ s h. ((fails_not (manifests s c) h.0, h.1), tt)) (keep test kept')
      (all-zip (λ s. T (test s)) (λ s. manifests c s ≡ false) (keep test kept') (kept test kept') (all_keep (λ s. manifests c s ≡ false) test kept' free)))

  -- the same of a conflict that may contain one, and is then dropped
  pub admitted-apart : Pairs Neither kept' → Pairs Neither (admitted kept' c)
  admitted-apart p = go (manifests_any kept' c) refl
    where
      go : (b : Bool) → manifests_any kept' c ≡ b → Pairs Neither (admitted kept' c)
      go true e = rw (admitted, e) p
      go false e = rw (admitted, e) (stored-apart p (any_fails (manifests c) kept' e))

  pub admitted-contains : (x : Assignment) → length x ≡ d → ContainsOne kept' x → ContainsOne (admitted kept' c) x
  admitted-contains x l s = go (manifests_any kept' c) refl
    where
      go : (b : Bool) → manifests_any kept' c ≡ b → ContainsOne (admitted kept' c) x
      go true e = rw (admitted, e) s
      go false e = rw (admitted, e) (stored-contains x l s)

  -- it contains one of those that are kept then, if only itself
  pub admitted_itself : ContainsOne (admitted kept' c) c
  admitted_itself = go (manifests_any kept' c) refl
    where
      go : (b : Bool) → manifests_any kept' c ≡ b → ContainsOne (admitted kept' c) c
      go true e = rw (admitted, e) ((any_exactly (manifests c) kept').0 e)
      go false e = rw (admitted, e) (some_right (λ s. manifests c s ≡ true) (keep (λ s. not (manifests s c)) kept') (c ∷ []) (inl (manifests_self c)))

-- ---- the survivors

module _ (d : ℕ) where
  -- what contains one that was found contains one that is kept, where each that was found does
  pub contains_through : (found kept : List Assignment) → Long d found → Long d kept → All (ContainsOne kept) found → (n : Assignment) → length n ≡ d → ContainsOne found n → ContainsOne kept n
  contains_through [] kept lf lk covers n ln s = absurd s
  contains_through (x ∷ found) kept lf lk covers n ln (inl m) = some_with (λ s q k. manifests_trans n x s (omega (arith, lf.0)) m k) kept lk covers.0
  contains_through (x ∷ found) kept lf lk covers n ln (inr s) = contains_through found kept lf.1 lk covers.1 n ln s

  -- so a node manifests one that is kept exactly if it manifests one that was found
  ruled_out : (found kept : List Assignment) → Long d found → Long d kept → Among kept found → All (ContainsOne kept) found → (n : Assignment) → length n ≡ d
      → manifests_any kept n ≡ manifests_any found n
  ruled_out found kept lf lk among covers n ln = go (manifests_any found n) refl
    where
      go : (b : Bool) → manifests_any found n ≡ b → manifests_any kept n ≡ b
      go true e = (any_exactly (manifests n) kept).1 (contains_through found kept lf lk covers n ln ((any_exactly (manifests n) found).0 e))
      go false e = not_so (manifests_any kept n) (λ k. false≢true (sym e ∙ (any_exactly (manifests n) found).1 (among_some (λ s. manifests n s ≡ true) kept found among ((any_exactly (manifests n) kept).0 k))))

  module _ (found : List Assignment) (l : Long d found) where
    long-survivors : Long d (survivors_of found)
    long-survivors = among-all (λ s. length s ≡ d) (survivors_of found) found (shortest-among [] found) l

    -- one conflict more that is found, where those found so far each contain a survivor
    survivors-next : All (ContainsOne (survivors_of found)) found → (c : Assignment) → length c ≡ d → survivors_of (found ++ (c ∷ [])) ≡ admitted (survivors_of found) c
    survivors-next covers c lc = go (manifests_any found c) refl
      where
        same : manifests_any (survivors_of found) c ≡ manifests_any found c
        same = ruled_out found (survivors_of found) l long-survivors (shortest-among [] found) covers c lc

        go : (b : Bool) → manifests_any found c ≡ b → survivors_of (found ++ (c ∷ [])) ≡ admitted (survivors_of found) c
        go true e = shortest-contains d c lc [] found l e ∙ rw (admitted, same ∙ e) refl
        go false e = shortest-free d c lc [] found e ∙ rw (admitted, same ∙ e) refl

  -- of conflicts found in turn the survivors are the shortest, from those found first to all of them
  survivors-on : (done rest : List Assignment) → Long d (done ++ rest) → Shortest done (survivors_of done) → Shortest (done ++ rest) (survivors_of (done ++ rest))
  survivors-on done [] l h = rw append-nil h
  survivors-on done (c ∷ rest) l h =
      let assoc : (done ++ (c ∷ [])) ++ rest ≡ done ++ (c ∷ rest) = append_assoc done (c ∷ []) rest in
      let ld : Long d done = all_left (λ s. length s ≡ d) done (c ∷ rest) l in
      let lc : length c ≡ d = (all_right (λ s. length s ≡ d) done (c ∷ rest) l).0 in
      let ls = long-survivors done ld in
      let next : survivors_of (done ++ (c ∷ [])) ≡ admitted (survivors_of done) c = survivors-next done ld h.covers c lc in
      rw (← assoc) (survivors-on (done ++ (c ∷ [])) rest (rw assoc l) (record {
        among = shortest-among [] (done ++ (c ∷ []));
        apart = rw next (admitted-apart (survivors_of done) c ls lc h.apart);
        covers = rw next (all_join (ContainsOne (admitted (survivors_of done) c)) done (c ∷ [])
            (all_map (λ x k. admitted-contains (survivors_of done) c ls lc x k.0 k.1) done (all-zip (λ x. length x ≡ d) (ContainsOne (survivors_of done)) done ld h.covers))
            (admitted_itself (survivors_of done) c ls lc, tt));
      }))

  module _ (found : List Assignment) (l : Long d found) where
    -- of the conflicts found the survivors are the shortest
    pub survivors-shortest : Shortest found (survivors_of found)
    survivors-shortest = survivors-on [] found l (record { among = tt; apart = tt; covers = tt })

    -- what one more that is found makes of them
    pub survivors-more : (c : Assignment) → length c ≡ d → survivors_of (found ++ (c ∷ [])) ≡ admitted (survivors_of found) c
    survivors-more c lc = survivors-next found l survivors-shortest.covers c lc

    -- every node that a conflict found rules out is ruled out by a survivor, and no other
    pub still_ruled-out : (n : Assignment) → length n ≡ d → manifests_any (survivors_of found) n ≡ manifests_any found n
    still_ruled-out n ln = ruled_out found (survivors_of found) l (long-survivors found l) (shortest-among [] found) survivors-shortest.covers n ln

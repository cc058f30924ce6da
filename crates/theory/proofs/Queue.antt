-- Lists that are kept in order by putting each element at its place: the listing's queue, by best states, and sorting. Assumes nothing.
use mathlib.Core.Path.{◌≡◌, refl}
use mathlib.Core.Logic.{◌⊎◌, inl, inr, ◌↔◌, ◌≢◌}
use mathlib.Core.Bool.{Bool, true, false, not}
use mathlib.Core.List.{List, [], ◌∷◌, ◌++◌}
use Prim.Native.Nat.{ℕ, suc, ◌+◌}
use native.Mathlib.Omega.{arith}
use lib.Dec.{T, T_not}
use lib.ListN.{length}
use Rattle.model.specs.Lists.{place, place_all, Some, All, Pairs}
use Rattle.model.specs.Assignment.{Assignment, Fits, Valid}
use Rattle.model.specs.Order.{Order, Before, best}
use Rattle.model.specs.Listing.{ahead, enqueue, enqueue_all}
use Rattle.theory.specs.BestFirst.{Apart, Inv}
use Rattle.theory.specs.Order.{In, Lawful}
use Rattle.theory.specs.Nodes.{sum_of, Ordered}
use Rattle.theory.proofs.Lists.{all_map, all-zip, all-by, some_swap, pairs-swap, pairs_map, pairs-zip, sum_ones}
use Rattle.theory.proofs.Nodes.{best_in, best-fits}

-- ---- one element

module _ {A : Type 0} (test : A → A → Bool) where
  -- an element goes before the first of a list, or else further on, as the test says
  put_cases : (M : List A → Type 0) (x y : A) (ys : List A)
      → (T (test x y) → M (x ∷ y ∷ ys)) → (T (not (test x y)) → M (y ∷ place test x ys)) → M (place test x (y ∷ ys))
  unfolding place
  put_cases M x y ys h k = go (test x y) h k
    where
      go : (b : Bool) → (T b → M (x ∷ y ∷ ys)) → (T (not b) → M (y ∷ place test x ys)) → M (elim b [ true ↦ x ∷ y ∷ ys | false ↦ y ∷ place test x ys ])
      go true h k = h tt
      go false h k = k tt

  -- what holds of the element or of some other holds of some member
  put_some : (P : A → Type 0) (x : A) (ys : List A) → P x ⊎ Some P ys → Some P (place test x ys)
  unfolding place
  put_some P x [] s = s
  put_some P x (y ∷ ys) s = put_cases (Some P) x y ys (λ h. s)
      (λ h. elim s [ inl p ↦ inr (put_some P x ys (inl p)) | inr t ↦ elim t [ inl p ↦ inl p | inr u ↦ inr (put_some P x ys (inr u)) ] ])

  -- and there are no other members
  put_unsome : (P : A → Type 0) (x : A) (ys : List A) → Some P (place test x ys) → P x ⊎ Some P ys
  unfolding place
  put_unsome P x [] s = s
  put_unsome P x (y ∷ ys) s = put_cases (λ zs. Some P zs → P x ⊎ Some P (y ∷ ys)) x y ys (λ h s. s)
      (λ h s. elim s [ inl p ↦ inr (inl p) | inr t ↦ elim (put_unsome P x ys t) [ inl p ↦ inl p | inr u ↦ inr (inr u) ] ]) s

  -- what holds of the element and of all others holds of all members
  put_all : (P : A → Type 0) (x : A) (ys : List A) → All P (x ∷ ys) → All P (place test x ys)
  unfolding place
  put_all P x ys = all-by P (x ∷ ys) (place test x ys) (λ y. put_unsome (λ z. y ≡ z) x ys)

  -- and the other way round
  put_unall : (P : A → Type 0) (x : A) (ys : List A) → All P (place test x ys) → All P (x ∷ ys)
  unfolding place
  put_unall P x ys = all-by P (place test x ys) (x ∷ ys) (λ y. put_some (λ z. y ≡ z) x ys)

  -- a sum over the members is the same
  put-sum : (w : A → ℕ) (x : A) (ys : List A) → sum_of w (place test x ys) ≡ w x + sum_of w ys
  unfolding place
  put-sum w x [] = refl
  put-sum w x (y ∷ ys) = put_cases (λ zs. sum_of w zs ≡ w x + (w y + sum_of w ys)) x y ys (λ h. refl) (λ h. omega (arith, put-sum w x ys))

  -- there is one member more
  put_length : (x : A) (ys : List A) → length (place test x ys) ≡ suc (length ys)
  unfolding place
  put_length x ys = omega (arith, put-sum (λ y. 1) x ys, sum_ones (place test x ys), sum_ones ys)

  -- a symmetric relation that holds of each pair still does
  put-pairs : (R : A → A → Type 0) → ((x y : A) → R x y → R y x) → (x : A) (ys : List A) → Pairs R (x ∷ ys) → Pairs R (place test x ys)
  unfolding place
  put-pairs R swap x [] p = p
  put-pairs R swap x (y ∷ ys) p = put_cases (Pairs R) x y ys (λ h. p)
      (λ h. (put_all (R y) x ys (swap x y p.0.0, p.1.0), put-pairs R swap x ys (p.0.1, p.1.1)))

  -- in a list that ascends by the test, an element that the test compares with each member takes its place
  put-ascending : ((x y z : A) → T (test x y) → T (test y z) → T (test x z)) → (x : A) (ys : List A)
      → All (λ y. T (test x y) ⊎ T (test y x)) ys → Pairs (λ x y. T (test x y)) ys → Pairs (λ x y. T (test x y)) (place test x ys)
  unfolding place
  put-ascending trans x [] c p = (tt, tt)
  put-ascending trans x (y ∷ ys) c p = put_cases (Pairs (λ x y. T (test x y))) x y ys
      (λ h. ((h, all_map (λ z m. trans x y z h m) ys p.0), p))
      (λ h. (put_all (λ z. T (test y z)) x ys (elim c.0 [ inl t ↦ absurd (T_not (test x y) h t) | inr t ↦ t ], p.0), put-ascending trans x ys c.1 p.1))

  -- ---- one element after another

  module _ (start : List A) where
    -- what holds of some element of the two lists holds of some member
    pub all_some : (P : A → Type 0) (xs : List A) → Some P (xs ++ start) → Some P (place_all test xs start)
    unfolding place_all
    all_some P [] s = s
    all_some P (x ∷ xs) s = (put_some P x (place_all test xs start) (elim s [ inl p ↦ inl p | inr t ↦ inr (all_some P xs t) ]))

    -- and there are no other members
    pub all_unsome : (P : A → Type 0) (xs : List A) → Some P (place_all test xs start) → Some P (xs ++ start)
    unfolding place_all
    all_unsome P [] s = s
    all_unsome P (x ∷ xs) s = elim (put_unsome P x (place_all test xs start) s) [ inl p ↦ inl p | inr t ↦ inr (all_unsome P xs t) ]

    -- what holds of all elements of the two lists holds of all members
    pub all-all : (P : A → Type 0) (xs : List A) → All P (xs ++ start) → All P (place_all test xs start)
    unfolding place_all
    all-all P xs = all-by P (xs ++ start) (place_all test xs start) (λ x. all_unsome (λ z. x ≡ z) xs)

    -- and the other way round
    all_unall : (P : A → Type 0) (xs : List A) → All P (place_all test xs start) → All P (xs ++ start)
    unfolding place_all
    all_unall P xs = all-by P (place_all test xs start) (xs ++ start) (λ x. all_some (λ z. x ≡ z) xs)

    -- a sum over the members is the sum over the two lists
    all-sum : (w : A → ℕ) (xs : List A) → sum_of w (place_all test xs start) ≡ sum_of w xs + sum_of w start
    unfolding place_all
    all-sum w [] = (omega arith)
    all-sum w (x ∷ xs) = (omega (arith, put-sum w x (place_all test xs start), all-sum w xs))

    -- and so with the length
    all_length : (xs : List A) → length (place_all test xs start) ≡ length xs + length start
    unfolding place_all
    all_length xs = omega (arith, all-sum (λ y. 1) xs, sum_ones (place_all test xs start), sum_ones xs, sum_ones start)

    -- a symmetric relation that holds of each pair of the two lists in a row still does
    all-pairs : (R : A → A → Type 0) → ((x y : A) → R x y → R y x) → (xs : List A) → Pairs R (xs ++ start) → Pairs R (place_all test xs start)
    unfolding place_all
    all-pairs R swap [] p = p
    all-pairs R swap (x ∷ xs) p = (put-pairs R swap x (place_all test xs start) (all-all (R x) xs p.0, all-pairs R swap xs p.1))

    -- if the test compares any two elements, what is put into an ascending list ascends
    pub all-ascending : ((x y z : A) → T (test x y) → T (test y z) → T (test x z)) → (xs : List A)
        → Pairs (λ x y. T (test x y) ⊎ T (test y x)) (xs ++ start) → Pairs (λ x y. T (test x y)) start → Pairs (λ x y. T (test x y)) (place_all test xs start)
    unfolding place_all
    all-ascending trans [] c p = p
    all-ascending trans (x ∷ xs) c p = (put-ascending trans x (place_all test xs start) (all-all _ xs c.0) (all-ascending trans xs c.1 p))

-- ---- the listing's queue

module _ (o : Order) where
  -- the queue's nodes are those that were in it, and the new one
  pub enqueue_some : (P : Assignment → Type 0) (n : Assignment) (queue : List Assignment) → Some P (enqueue o n queue) ↔ P n ⊎ Some P queue
  enqueue_some P n queue = (put_unsome (ahead o) P n queue, put_some (ahead o) P n queue)

  -- what holds of all of them holds of the new one and of all others
  pub enqueue-all : (P : Assignment → Type 0) (n : Assignment) (queue : List Assignment) → All P (enqueue o n queue) ↔ P n × All P queue
  enqueue-all P n queue = (put_unall (ahead o) P n queue, put_all (ahead o) P n queue)

  -- there is one node more
  pub enqueue_length : (n : Assignment) (queue : List Assignment) → length (enqueue o n queue) ≡ suc (length queue)
  enqueue_length = put_length (ahead o)

  -- a measure of the queue, such as its weight, grows by the node's
  pub enqueue-sum : (w : Assignment → ℕ) (n : Assignment) (queue : List Assignment) → sum_of w (enqueue o n queue) ≡ w n + sum_of w queue
  enqueue-sum = put-sum (ahead o)

  -- a symmetric relation that holds of each pair of nodes still does
  pub enqueue-pairs : (R : Assignment → Assignment → Type 0) → ((m n : Assignment) → R m n → R n m)
      → (n : Assignment) (queue : List Assignment) → All (R n) queue → Pairs R queue → Pairs R (enqueue o n queue)
  enqueue-pairs R swap n queue a p = put-pairs (ahead o) R swap n queue (a, p)

  -- the same laws for several nodes: the members
  pub enqueue_all_some : (P : Assignment → Type 0) (ns queue : List Assignment) → Some P (enqueue_all o ns queue) ↔ Some P (ns ++ queue)
  enqueue_all_some P ns queue = (all_unsome (ahead o) queue P ns, all_some (ahead o) queue P ns)

  -- what holds of all members
  pub enqueue_all-all : (P : Assignment → Type 0) (ns queue : List Assignment) → All P (enqueue_all o ns queue) ↔ All P (ns ++ queue)
  enqueue_all-all P ns queue = (all_unall (ahead o) queue P ns, all-all (ahead o) queue P ns)

  -- the length
  pub enqueue_all_length : (ns queue : List Assignment) → length (enqueue_all o ns queue) ≡ length ns + length queue
  enqueue_all_length ns queue = all_length (ahead o) queue ns

  -- a measure
  pub enqueue_all-sum : (w : Assignment → ℕ) (ns queue : List Assignment) → sum_of w (enqueue_all o ns queue) ≡ sum_of w ns + sum_of w queue
  enqueue_all-sum w ns queue = all-sum (ahead o) queue w ns

  -- a symmetric relation
  pub enqueue_all-pairs : (R : Assignment → Assignment → Type 0) → ((m n : Assignment) → R m n → R n m)
      → (ns queue : List Assignment) → Pairs R (ns ++ queue) → Pairs R (enqueue_all o ns queue)
  enqueue_all-pairs R swap ns queue = all-pairs (ahead o) queue R swap ns

  -- the invariant of a best-first enumeration does not see the order of the queue
  pub enqueue_all-inv : {F : Type 0} (R : F → F → Type 0) (I : F → Assignment → Type 0) (Good : F → Type 0) {listed : List F} (ns queue : List Assignment)
      → Inv R I Good (queue ++ ns) listed → Inv R I Good (enqueue_all o ns queue) listed
  enqueue_all-inv R I Good ns queue i = record {
    apart = enqueue_all-pairs (Apart I) (λ m n a f p q. a f q p) ns queue (pairs-swap (Apart I) (λ m n a f p q. a f q p) queue ns i.apart);
    ascending = i.ascending;
    good = i.good;
    before = λ f s. i.before f (some_swap (I f) ns queue ((enqueue_all_some (I f) ns queue).0 s));
    complete = λ f g. elim (i.complete f g) [ inl m ↦ inl m | inr s ↦ inr ((enqueue_all_some (I f) ns queue).1 (some_swap (I f) queue ns s)) ];
  }

-- ---- the queue's order

module _ (ss : List ℕ) (o : Order) (l : Lawful ss o) where
  -- of two different full assignments one comes first
  pub either_first : (f g : List ℕ) → Fits ss f → Fits ss g → f ≢ g → Before o f g ⊎ Before o g f
  either_first f g h k d = elim (l.total f g h k) [ inl t ↦ inl t | inr t ↦ elim t [ inl e ↦ absurd (d e) | inr u ↦ inr u ] ]

  -- of two valid nodes with different best states one is earlier
  compares : (m n : Assignment) → Valid ss m → Valid ss n → best o.preferred m ≢ best o.preferred n → T (ahead o m n) ⊎ T (ahead o n m)
  compares m n v w = either_first (best o.preferred m) (best o.preferred n) (best-fits ss o.preferred m l.preferred v) (best-fits ss o.preferred n l.preferred w)

  -- nodes with no full assignment in common have different best states
  pub apart-best : (m n : Assignment) → Valid ss m → Valid ss n → Apart (In ss) m n → best o.preferred m ≢ best o.preferred n
  apart-best m n v w a e = a (best o.preferred n) (rw e at (best_in ss o.preferred m l.preferred v)) (best_in ss o.preferred n l.preferred w)

  -- a queue in the order of best states stays so with a node whose best state differs from each
  pub enqueue-ordered : (n : Assignment) (queue : List Assignment) → Valid ss n → All (Valid ss) queue
      → All (λ m. best o.preferred n ≢ best o.preferred m) queue → Ordered o queue → Ordered o (enqueue o n queue)
  enqueue-ordered n queue v vs d p = put-ascending (ahead o) (λ a b c. l.transitive _ _ _) n queue
      (all_map (λ m c. compares n m v c.0 c.1) queue (all-zip _ _ queue vs d)) p

  -- and with several nodes, if no two have a full assignment in common
  pub enqueue_all-ordered : (ns queue : List Assignment) → All (Valid ss) (ns ++ queue) → Pairs (Apart (In ss)) (ns ++ queue) → Ordered o queue → Ordered o (enqueue_all o ns queue)
  enqueue_all-ordered ns queue v a p = all-ascending (ahead o) queue (λ a b c. l.transitive _ _ _) ns
      (pairs_map (λ m n c. compares m n c.0 c.1 (apart-best m n c.0 c.1 c.2)) (ns ++ queue) (pairs-zip (Valid ss) (Apart (In ss)) (ns ++ queue) v a)) p

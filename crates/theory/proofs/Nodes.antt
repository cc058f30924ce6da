-- The children of a node, its best state, and what measures of a node say of its children. Assumes nothing.
use mathlib.Core.Path.{◌≡◌, refl, sym, ◌∙◌, ap}
use mathlib.Core.Logic.{◌⊎◌, inl, inr, ◌≢◌}
use mathlib.Core.Bool.{true, false, not}
use mathlib.Core.Option.{Option, none, some}
use mathlib.Core.List.{List, [], ◌∷◌, map}
use Prim.Native.Nat.{ℕ, zero, suc, ◌+◌, ◌*◌, ◌≤◌, ◌<◌}
use native.Mathlib.Omega.{arith}
use native.Mathlib.Decide.{ℕ_discrete}
use native.Mathlib.Nat.{suc-mul, zero-mul, mul-zero, mul-add, add-mul, mul_comm, mul-le-mul_left, mul-le-mul_right, mul-pos}
use lib.Dec.{T_not, not_T, eqb, eqb→eq, eqb_refl}
use lib.ListN.{length, get_or, set}
use borrow.Author.Tests.{eqb-true, eq-eqb, not-false}
use Rattle.model.specs.Lists.{Some, Mem, All, Pairs, values_from}
use Rattle.model.specs.Assignment.{Assignment, Fits, Under, Valid, Takes, Agree, is_full, value_list}
use Rattle.model.specs.Conflict.{manifests, differs, resolves, contains}
use Rattle.model.specs.Order.{Order, Before, best, product}
use Rattle.model.specs.Listing.{other_values, resolving, branching, weight, unassigned}
use Rattle.theory.specs.BestFirst.{Apart, Weak}
use Rattle.theory.specs.Order.{In, Lawful}
use Rattle.theory.specs.Nodes.{Child, sum_of, weights, room, rooms}
use Rattle.theory.proofs.Lists.{some_map, some_left, some_right, all_map, all_join, all_any, all_keep, pairs-join, pairs_map, pairs-keep, some_keep, kept, some_image, all_image, pairs_image, sum-join, keep-fewer, values_length, and_both, or_neither}
use Rattle.theory.proofs.Every.{values-small, values-all, values-apart}
use Rattle.theory.proofs.BestFirst.{weak_refl, weak_trans}

-- ---- the values of a domain, and those but one

-- the values of a domain are below its size
domain_small : (s : ℕ) → All (λ x. x < s) (values_from 0 s)
domain_small s = all_map (λ x h. omega arith) (values_from 0 s) (values-small 0 s)

-- the value left out is none of the others
others_not : (y s : ℕ) → All (λ x. x ≢ y) (other_values y s)
others_not y s = all_map (λ x t e. T_not (eqb x y) t (rw e (eqb_refl y))) (other_values y s) (kept _ (values_from 0 s))

-- each value of the domain but that one is among the others
others-all : (y s x : ℕ) → x < s → x ≢ y → Mem x (other_values y s)
others-all y s x h d =
    some_keep _ (λ z. not (eqb z y)) (λ z e. not_T (eqb z y) (λ t. d (e ∙ eqb→eq z y t))) (values_from 0 s) (values-all 0 s x (omega arith) (omega arith))

-- leaving out a value of the domain leaves fewer
others-fewer : (y s : ℕ) → y < s → length (other_values y s) < s
others-fewer y s h = rw (values_length 0 s) at
    (keep-fewer (λ x. not (eqb x y)) (values_from 0 s) (some_map {Q = λ x. not (eqb x y) ≡ false} (λ x e. rw (eq-eqb x y (sym e))) (values_from 0 s) (values-all 0 s y (omega arith) (omega arith))))

-- ---- nodes that differ at the first variable only, and nodes that are equal there

-- a child of the rest, with a value for the first variable that the node allows, is a child
child_under : {ss : List ℕ} {n m : Assignment} (s : ℕ) (o d : Option ℕ) → ((x : ℕ) → Takes x d → Takes x o) → Under s d → Child ss n m → Child (s ∷ ss) (o ∷ n) (d ∷ m)
child_under {n} {m} s o d t u c = record { inside = inside; valid = (u, c.valid) }
  where
    inside : (f : List ℕ) → Agree f (d ∷ m) → Agree f (o ∷ n)
    inside [] a = a
    inside (x ∷ f) a = (t x a.0, c.inside f a.1)

-- no f is in two nodes that give the first variable different values
apart-head : (m n : Assignment) (x y : ℕ) → x ≢ y → Apart Agree (some x ∷ m) (some y ∷ n)
apart-head m n x y d [] a b = a
apart-head m n x y d (z ∷ f) a b = d (sym a.0 ∙ b.0)

-- nor in two nodes whose rests have no f in common
apart_under : (o : Option ℕ) (m n : Assignment) → Apart Agree m n → Apart Agree (o ∷ m) (o ∷ n)
apart_under o m n h [] a b = a
apart_under o m n h (x ∷ f) a b = h f a.1 b.1

-- the node with each of some values of its first variable: the nodes are children
each_children : (s : ℕ) (ss : List ℕ) (n : Assignment) (xs : List ℕ) → Valid ss n → All (λ x. x < s) xs → All (Child (s ∷ ss) (none ∷ n)) (map (λ x. some x ∷ n) xs)
each_children s ss n xs v h = all_image _ _ xs (all_map (λ x l. child_under s none (some x) (λ y t. tt) l (record { inside = λ f a. a; valid = v })) xs h)

-- if no two of the values are equal, no f is in two of them
each-apart : (n : Assignment) (xs : List ℕ) → Pairs ◌≢◌ xs → Pairs (Apart Agree) (map (λ x. some x ∷ n) xs)
each-apart n xs d = pairs_image _ _ xs (pairs_map (apart-head n n) xs d)

-- an f of the node whose first value is one of them is in one
each-covers : (n : Assignment) (xs : List ℕ) (x : ℕ) (f : List ℕ) → Mem x xs → Agree f n → Some (Agree (x ∷ f)) (map (λ x. some x ∷ n) xs)
each-covers n xs x f m a = some_image _ (Agree (x ∷ f)) xs (some_map (λ y e. (e, a)) xs m)

-- the children of the rest with one value, or none, at the first variable: they are children
under_children : (s : ℕ) (ss : List ℕ) (n : Assignment) (o d : Option ℕ) (ms : List Assignment)
    → ((x : ℕ) → Takes x d → Takes x o) → Under s d → All (Child ss n) ms → All (Child (s ∷ ss) (o ∷ n)) (map (λ m. d ∷ m) ms)
under_children s ss n o d ms t u h = all_image _ _ ms (all_map (λ m c. child_under s o d t u c) ms h)

-- if no f is in two of the rests, none is in two of them
under_apart : (d : Option ℕ) (ms : List Assignment) → Pairs (Apart Agree) ms → Pairs (Apart Agree) (map (λ m. d ∷ m) ms)
under_apart d ms p = pairs_image _ _ ms (pairs_map (apart_under d) ms p)

-- an f with that first value whose rest is in one of the rests is in one of them
under_covers : (d : Option ℕ) (ms : List Assignment) (x : ℕ) (f : List ℕ) → Takes x d → Some (Agree f) ms → Some (Agree (x ∷ f)) (map (λ m. d ∷ m) ms)
under_covers d ms x f t h = some_image _ (Agree (x ∷ f)) ms (some_map (λ m a. (t, a)) ms h)

-- ---- branching

-- the children of a valid node are valid, and each f of a child is in the node
branching_children : (ss : List ℕ) (n : Assignment) → Valid ss n → All (Child ss n) (branching ss n)
branching_children [] n v = tt
branching_children (s ∷ ss) [] v = tt
branching_children (s ∷ ss) (none ∷ n) v = each_children s ss n (values_from 0 s) v.1 (domain_small s)
branching_children (s ∷ ss) (some x ∷ n) v = under_children s ss n (some x) (some x) (branching ss n) (λ y t. t) v.0 (branching_children ss n v.1)

-- each f of a child is in the node
pub branching-inside : (ss : List ℕ) (n : Assignment) → Valid ss n → All (λ m. (f : List ℕ) → Agree f m → Agree f n) (branching ss n)
branching-inside ss n v = all_map (λ m c. c.inside) (branching ss n) (branching_children ss n v)

-- the children are valid
pub branching-valid : (ss : List ℕ) (n : Assignment) → Valid ss n → All (Valid ss) (branching ss n)
branching-valid ss n v = all_map (λ m c. c.valid) (branching ss n) (branching_children ss n v)

-- no f is in two children
pub branching-apart : (ss : List ℕ) (n : Assignment) → Pairs (Apart Agree) (branching ss n)
branching-apart [] n = tt
branching-apart (s ∷ ss) [] = tt
branching-apart (s ∷ ss) (none ∷ n) = each-apart n (values_from 0 s) (values-apart 0 s)
branching-apart (s ∷ ss) (some x ∷ n) = under_apart (some x) (branching ss n) (branching-apart ss n)

-- an f of the node is in a child, or the node is full
pub branching-covers : (ss : List ℕ) (n : Assignment) (f : List ℕ) → Fits ss f → Agree f n → (is_full n ≡ true) ⊎ Some (Agree f) (branching ss n)
branching-covers [] [] [] h a = inl refl
branching-covers [] (o ∷ n) [] h a = absurd a
branching-covers [] n (x ∷ f) h a = absurd h
branching-covers (s ∷ ss) n [] h a = absurd h
branching-covers (s ∷ ss) [] (x ∷ f) h a = absurd a
branching-covers (s ∷ ss) (none ∷ n) (x ∷ f) h a = inr (each-covers n (values_from 0 s) x f (values-all 0 s x (omega arith) (omega arith)) a.1)
branching-covers (s ∷ ss) (some y ∷ n) (x ∷ f) h a =
    elim (branching-covers ss n f h.1 a.1) [ inl u ↦ inl u | inr t ↦ inr (under_covers (some y) (branching ss n) x f a.0 t) ]

-- ---- resolving a conflict

-- the children of a valid node are valid, and each f of a child is in the node
resolving_children : (ss : List ℕ) (n c : Assignment) → Valid ss n → Valid ss c → All (Child ss n) (resolving ss n c)
resolving_children [] n c v w = tt
resolving_children (s ∷ ss) [] c v w = tt
resolving_children (s ∷ ss) (o ∷ n) [] v w = tt
resolving_children (s ∷ ss) (some x ∷ n) (d ∷ c) v w = under_children s ss n (some x) (some x) (resolving ss n c) (λ y t. t) v.0 (resolving_children ss n c v.1 w.1)
resolving_children (s ∷ ss) (none ∷ n) (none ∷ c) v w = under_children s ss n none none (resolving ss n c) (λ y t. t) tt (resolving_children ss n c v.1 w.1)
resolving_children (s ∷ ss) (none ∷ n) (some y ∷ c) v w =
    all_join _ (map (λ x. some x ∷ n) (other_values y s)) (map (λ m. some y ∷ m) (resolving ss n c))
    (each_children s ss n (other_values y s) v.1 (all_keep _ _ (values_from 0 s) (domain_small s)))
    (under_children s ss n none (some y) (resolving ss n c) (λ x t. tt) w.0 (resolving_children ss n c v.1 w.1))

-- each f of a child is in the node
pub resolving-inside : (ss : List ℕ) (n c : Assignment) → Valid ss n → Valid ss c → All (λ m. (f : List ℕ) → Agree f m → Agree f n) (resolving ss n c)
resolving-inside ss n c v w = all_map (λ m h. h.inside) (resolving ss n c) (resolving_children ss n c v w)

-- the children are valid
pub resolving-valid : (ss : List ℕ) (n c : Assignment) → Valid ss n → Valid ss c → All (Valid ss) (resolving ss n c)
resolving-valid ss n c v w = all_map (λ m h. h.valid) (resolving ss n c) (resolving_children ss n c v w)

-- no f is in two children
pub resolving-apart : (ss : List ℕ) (n c : Assignment) → Pairs (Apart Agree) (resolving ss n c)
resolving-apart [] n c = tt
resolving-apart (s ∷ ss) [] c = tt
resolving-apart (s ∷ ss) (o ∷ n) [] = tt
resolving-apart (s ∷ ss) (some x ∷ n) (d ∷ c) = under_apart (some x) (resolving ss n c) (resolving-apart ss n c)
resolving-apart (s ∷ ss) (none ∷ n) (none ∷ c) = under_apart none (resolving ss n c) (resolving-apart ss n c)
resolving-apart (s ∷ ss) (none ∷ n) (some y ∷ c) =
    pairs-join _ (map (λ x. some x ∷ n) (other_values y s)) (map (λ m. some y ∷ m) (resolving ss n c))
    (each-apart n (other_values y s) (pairs-keep ◌≢◌ _ (values_from 0 s) (values-apart 0 s)))
    (under_apart (some y) (resolving ss n c) (resolving-apart ss n c))
    (all_image _ _ (other_values y s) (all_map (λ x d. all_image _ _ (resolving ss n c) (all_any (λ m. apart-head n m x y d) (resolving ss n c))) (other_values y s) (others_not y s)))

-- a value that does not differ from the conflict's is the conflict's
not_differs : (x : ℕ) (d : Option ℕ) → differs (some x) d ≡ false → Takes x d
not_differs x none e = tt
not_differs x (some y) e = eqb-true x y (not-false (eqb x y) e)

-- an f of a node that does not resolve the conflict is in the conflict or in a child
pub resolving-covers : (ss : List ℕ) (n c : Assignment) (f : List ℕ) → resolves n c ≡ false → Valid ss c → Fits ss f → Agree f n → Agree f c ⊎ Some (Agree f) (resolving ss n c)
resolving-covers [] n [] [] e w h a = inl tt
resolving-covers [] n (d ∷ c) [] e w h a = absurd w
resolving-covers [] n c (x ∷ f) e w h a = absurd h
resolving-covers (s ∷ ss) n c [] e w h a = absurd h
resolving-covers (s ∷ ss) n [] (x ∷ f) e w h a = absurd w
resolving-covers (s ∷ ss) [] (d ∷ c) (x ∷ f) e w h a = absurd a
resolving-covers (s ∷ ss) (some y ∷ n) (d ∷ c) (x ∷ f) e w h a =
    let b = or_neither (differs (some y) d) (resolves n c) e in
    elim (resolving-covers ss n c f b.1 w.1 h.1 a.1) [
      | inl u ↦ inl (rw a.0 (not_differs y d b.0), u)
      | inr t ↦ inr (under_covers (some y) (resolving ss n c) x f a.0 t)
    ]
resolving-covers (s ∷ ss) (none ∷ n) (none ∷ c) (x ∷ f) e w h a =
    elim (resolving-covers ss n c f e w.1 h.1 a.1) [ inl u ↦ inl (tt, u) | inr t ↦ inr (under_covers none (resolving ss n c) x f tt t) ]
resolving-covers (s ∷ ss) (none ∷ n) (some y ∷ c) (x ∷ f) e w h a =
    elim (ℕ_discrete x y) [
      | yes q ↦ elim (resolving-covers ss n c f e w.1 h.1 a.1) [
        | inl u ↦ inl (q, u)
        | inr t ↦ inr (some_right (Agree (x ∷ f)) (map (λ x. some x ∷ n) (other_values y s)) _ (under_covers (some y) (resolving ss n c) x f q t))
      ]
      | no d ↦ inr (some_left (Agree (x ∷ f)) (map (λ x. some x ∷ n) (other_values y s)) _ (each-covers n (other_values y s) x f (others-all y s x h.0 d) a.1))
    ]

-- a value that a node's variable takes is the conflict's, if the node's is
contains-takes : (o d : Option ℕ) (x : ℕ) → contains o d ≡ true → Takes x o → Takes x d
contains-takes o none x e t = tt
contains-takes none (some y) x e t = cc
contains-takes (some z) (some y) x e t = t ∙ eqb-true z y e

-- each f of a node that manifests a conflict is in the conflict
pub manifests-agrees : (ss : List ℕ) (n c : Assignment) (f : List ℕ) → manifests n c ≡ true → Valid ss n → Valid ss c → Agree f n → Agree f c
manifests-agrees [] [] [] f e v w a = a
manifests-agrees [] [] (d ∷ c) f e v w a = absurd w
manifests-agrees [] (o ∷ n) c f e v w a = absurd v
manifests-agrees (s ∷ ss) [] c f e v w a = absurd v
manifests-agrees (s ∷ ss) (o ∷ n) [] f e v w a = absurd w
manifests-agrees (s ∷ ss) (o ∷ n) (d ∷ c) [] e v w a = a
manifests-agrees (s ∷ ss) (o ∷ n) (d ∷ c) (x ∷ f) e v w a =
    let b = and_both (contains o d) (manifests n c) e in
    (contains-takes o d x b.0 a.0, manifests-agrees ss n c f b.1 v.1 w.1 a.1)

-- ---- the empty assignment

-- it is valid
pub unassigned-valid : (ss : List ℕ) → Valid ss (unassigned ss)
unassigned-valid [] = tt
unassigned-valid (s ∷ ss) = (tt, unassigned-valid ss)

-- each f is in it
pub unassigned-all : (ss f : List ℕ) → Fits ss f → Agree f (unassigned ss)
unassigned-all [] [] h = tt
unassigned-all [] (x ∷ f) h = absurd h
unassigned-all (s ∷ ss) [] h = absurd h
unassigned-all (s ∷ ss) (x ∷ f) h = (tt, unassigned-all ss f h.1)

-- it has as many full assignments as there are
pub unassigned-room : (ss : List ℕ) → room ss (unassigned ss) ≡ product ss
unassigned-room [] = refl
unassigned-room (s ∷ ss) = ap (◌*◌ s) (unassigned-room ss)

-- ---- best states

-- the best state of a valid node is one of its full assignments
pub best_in : (ss xs : List ℕ) (n : Assignment) → Fits ss xs → Valid ss n → In ss (best xs n) n
best_in [] [] [] h v = (tt, tt)
best_in [] [] (o ∷ n) h v = absurd v
best_in [] (x ∷ xs) n h v = absurd h
best_in (s ∷ ss) [] n h v = absurd h
best_in (s ∷ ss) (x ∷ xs) [] h v = absurd v
best_in (s ∷ ss) (x ∷ xs) (none ∷ n) h v = let r = best_in ss xs n h.1 v.1 in ((h.0, r.0), (tt, r.1))
best_in (s ∷ ss) (x ∷ xs) (some y ∷ n) h v = let r = best_in ss xs n h.1 v.1 in ((v.0, r.0), (refl, r.1))

-- so it fits the domains
pub best-fits : (ss xs : List ℕ) (n : Assignment) → Fits ss xs → Valid ss n → Fits ss (best xs n)
best-fits ss xs n h v = (best_in ss xs n h v).0

-- and extends the node
pub best-agrees : (ss xs : List ℕ) (n : Assignment) → Fits ss xs → Valid ss n → Agree (best xs n) n
best-agrees ss xs n h v = (best_in ss xs n h v).1

-- a full node has one f
pub full-one : (n : Assignment) (f : List ℕ) → is_full n ≡ true → Agree f n → f ≡ value_list n
full-one [] [] u a = refl
full-one [] (x ∷ f) u a = absurd a
full-one (o ∷ n) [] u a = absurd a
full-one (none ∷ n) (x ∷ f) u a = cc
full-one (some y ∷ n) (x ∷ f) u a = let e = a.0 in let r = full-one n f u a.1 in cc

-- and that is its best state
pub full-best : (ss xs : List ℕ) (n : Assignment) → Fits ss xs → Valid ss n → is_full n ≡ true → best xs n ≡ value_list n
full-best ss xs n h v u = full-one n (best xs n) u (best-agrees ss xs n h v)

-- to give one variable its preferred value makes no f worse
abbrev Betters : (List ℕ → List ℕ → Type 0) → List ℕ → List ℕ → Type 0
Betters R ss xs = (f : List ℕ) → Fits ss f → (v : ℕ) → v < length ss → R (set f v (get_or xs v 0)) f

-- then the best state of a node is related to each of its f, by any reflexive and transitive relation with that law
least : (R : List ℕ → List ℕ → Type 0) → ((f : List ℕ) → R f f) → ((f g h : List ℕ) → R f g → R g h → R f h)
    → (ss xs : List ℕ) → Fits ss xs → Betters R ss xs → (n : Assignment) → Valid ss n → (f : List ℕ) → Fits ss f → Agree f n → R (best xs n) f
least R re tr [] [] h law n v [] k a = re []
least R re tr [] [] h law n v (x ∷ f) k a = absurd k
least R re tr [] (p ∷ xs) h law n v f k a = absurd h
least R re tr (s ∷ ss) [] h law n v f k a = absurd h
least R re tr (s ∷ ss) (p ∷ xs) h law n v [] k a = absurd k
least R re tr (s ∷ ss) (p ∷ xs) h law [] v (x ∷ f) k a = absurd a
least R re tr (s ∷ ss) (p ∷ xs) h law (none ∷ n) v (x ∷ f) k a =
    tr (p ∷ best xs n) (p ∷ f) (x ∷ f)
    (least (λ c d. R (p ∷ c) (p ∷ d)) (λ c. re (p ∷ c)) (λ c d e. tr (p ∷ c) (p ∷ d) (p ∷ e)) ss xs h.1
    (λ g j i l. law (p ∷ g) (h.0, j) (suc i) (omega arith)) n v.1 f k.1 a.1)
    (law (x ∷ f) k 0 (omega arith))
least R re tr (s ∷ ss) (p ∷ xs) h law (some y ∷ n) v (x ∷ f) k a =
    rw a.0
    (least (λ c d. R (y ∷ c) (y ∷ d)) (λ c. re (y ∷ c)) (λ c d e. tr (y ∷ c) (y ∷ d) (y ∷ e)) ss xs h.1
    (λ g j i l. law (y ∷ g) (v.0, j) (suc i) (omega arith)) n v.1 f k.1 a.1)

-- in any lawful order the best state of a node is the first of its full assignments
pub best-least : (ss : List ℕ) (o : Order) → Lawful ss o → (n : Assignment) → Valid ss n → (f : List ℕ) → In ss f n → Weak (Before o) (best o.preferred n) f
best-least ss o l n v f i =
    least (Weak (Before o)) (weak_refl (Before o) l.transitive) (weak_trans (Before o) l.transitive) ss o.preferred l.preferred l.betters n v f i.0 i.1

-- ---- measures: the children together are no heavier than the node

-- a number is at most its product with a number that is no less
times : (k a : ℕ) → k ≤ a → k ≤ a * k
times zero a h = omega arith
times (suc k) zero h = absurd (omega arith)
times (suc k) (suc a) h = omega (arith, suc-mul a (suc k))

-- a measure that multiplies a factor for each unassigned variable, at least k, with factors that are k more than the sizes
record Measure (w : List ℕ → Assignment → ℕ) (factor : ℕ → ℕ) (k : ℕ) : Type 0 where
  free : (s : ℕ) (ss : List ℕ) (n : Assignment) → w (s ∷ ss) (none ∷ n) ≡ factor s * w ss n
  given : (s : ℕ) (ss : List ℕ) (x : ℕ) (n : Assignment) → w (s ∷ ss) (some x ∷ n) ≡ w ss n
  least : (ss : List ℕ) (n : Assignment) → k ≤ w ss n
  enough : (s : ℕ) → s + k ≤ factor s

module _ {w : List ℕ → Assignment → ℕ} {factor : ℕ → ℕ} {k : ℕ} (l : Measure w factor k) where
  -- the sum over the node with each of some values of its first variable
  sum-each : (s : ℕ) (ss : List ℕ) (n : Assignment) (xs : List ℕ) → sum_of (w (s ∷ ss)) (map (λ x. some x ∷ n) xs) ≡ length xs * w ss n
  sum-each s ss n [] = omega (arith, zero-mul (w ss n))
  sum-each s ss n (x ∷ xs) = omega (arith, l.given s ss x n, sum-each s ss n xs, suc-mul (length xs) (w ss n))

  -- the sum over nodes with one value at the first variable
  sum-given : (s x : ℕ) (ss : List ℕ) (ms : List Assignment) → sum_of (w (s ∷ ss)) (map (λ m. some x ∷ m) ms) ≡ sum_of (w ss) ms
  sum-given s x ss [] = refl
  sum-given s x ss (m ∷ ms) = omega (arith, l.given s ss x m, sum-given s x ss ms)

  -- the sum over nodes whose first variable is unassigned
  sum-free : (s : ℕ) (ss : List ℕ) (ms : List Assignment) → sum_of (w (s ∷ ss)) (map (λ m. none ∷ m) ms) ≡ factor s * sum_of (w ss) ms
  sum-free s ss [] = omega (arith, mul-zero (factor s))
  sum-free s ss (m ∷ ms) = omega (arith, l.free s ss m, sum-free s ss ms, mul-add (factor s) (w ss m) (sum_of (w ss) ms))

  -- branching loses k
  branching-less : (ss : List ℕ) (n : Assignment) → sum_of (w ss) (branching ss n) + k ≤ w ss n
  branching-less [] n = omega (arith, l.least [] n)
  branching-less (s ∷ ss) [] = omega (arith, l.least (s ∷ ss) [])
  branching-less (s ∷ ss) (none ∷ n) =
      rw (sum-each s ss n (values_from 0 s), values_length 0 s, l.free s ss n)
      (omega (arith, mul-le-mul_right (w ss n) (l.enough s), add-mul s k (w ss n), times k (w ss n) (l.least ss n), mul_comm k (w ss n)))
  branching-less (s ∷ ss) (some x ∷ n) = rw (sum-given s x ss (branching ss n), l.given s ss x n) (branching-less ss n)

  -- so does resolving
  resolving-less : (ss : List ℕ) (n c : Assignment) → Valid ss c → sum_of (w ss) (resolving ss n c) + k ≤ w ss n
  resolving-less [] n c v = omega (arith, l.least [] n)
  resolving-less (s ∷ ss) [] c v = omega (arith, l.least (s ∷ ss) [])
  resolving-less (s ∷ ss) (o ∷ n) [] v = absurd v
  resolving-less (s ∷ ss) (some x ∷ n) (d ∷ c) v = rw (sum-given s x ss (resolving ss n c), l.given s ss x n) (resolving-less ss n c v.1)
  resolving-less (s ∷ ss) (none ∷ n) (none ∷ c) v =
      rw (sum-free s ss (resolving ss n c), l.free s ss n)
      (omega (arith, mul-le-mul_left (factor s) (resolving-less ss n c v.1), mul-add (factor s) (sum_of (w ss) (resolving ss n c)) k, times k (factor s) (omega (arith, l.enough s))))
  resolving-less (s ∷ ss) (none ∷ n) (some y ∷ c) v =
      let h : suc (length (other_values y s)) ≤ factor s = omega (arith, others-fewer y s v.0, l.enough s) in
      rw (sum-join (w (s ∷ ss)) (map (λ x. some x ∷ n) (other_values y s)) (map (λ m. some y ∷ m) (resolving ss n c)), sum-each s ss n (other_values y s), sum-given s y ss (resolving ss n c), l.free s ss n)
      (omega (arith, resolving-less ss n c v.1, mul-le-mul_right (w ss n) h, suc-mul (length (other_values y s)) (w ss n)))

-- a weight is at least 1
pub weight_pos : (ss : List ℕ) (n : Assignment) → 1 ≤ weight ss n
weight_pos [] n = omega arith
weight_pos (s ∷ ss) [] = omega arith
weight_pos (s ∷ ss) (none ∷ n) = omega (arith, suc-mul s (weight ss n), weight_pos ss n)
weight_pos (s ∷ ss) (some x ∷ n) = weight_pos ss n

-- the weight is such a measure, and loses 1
weight_measure : Measure weight suc 1
weight_measure = record { free = λ s ss n. refl; given = λ s ss x n. refl; least = weight_pos; enough = λ s. omega arith }

-- the children of a node weigh less than the node
pub branching-weight : (ss : List ℕ) (n : Assignment) → weights ss (branching ss n) < weight ss n
branching-weight ss n = omega (arith, branching-less weight_measure ss n)

-- whether by branching or by resolving
pub resolving-weight : (ss : List ℕ) (n c : Assignment) → Valid ss c → weights ss (resolving ss n c) < weight ss n
resolving-weight ss n c v = omega (arith, resolving-less weight_measure ss n c v)

-- a node over domains that are not empty has a full assignment
pub room_pos : (ss : List ℕ) (n : Assignment) → All (λ s. 1 ≤ s) ss → 1 ≤ room ss n
room_pos [] n h = omega arith
room_pos (s ∷ ss) [] h = omega arith
room_pos (s ∷ ss) (none ∷ n) h = mul-pos h.0 (room_pos ss n h.1)
room_pos (s ∷ ss) (some x ∷ n) h = room_pos ss n h.1

-- the room is such a measure, and need lose nothing
room_measure : Measure room (λ s. s) 0
room_measure = record { free = λ s ss n. refl; given = λ s ss x n. refl; least = λ ss n. omega arith; enough = λ s. omega arith }

-- the children of a node have no more full assignments than the node
pub branching-room : (ss : List ℕ) (n : Assignment) → rooms ss (branching ss n) ≤ room ss n
branching-room ss n = omega (arith, branching-less room_measure ss n)

-- whether by branching or by resolving
pub resolving-room : (ss : List ℕ) (n c : Assignment) → Valid ss c → rooms ss (resolving ss n c) ≤ room ss n
resolving-room ss n c v = omega (arith, resolving-less room_measure ss n c v)

-- a full node has one
pub full-room : (ss : List ℕ) (n : Assignment) → is_full n ≡ true → room ss n ≡ 1
full-room [] n u = refl
full-room (s ∷ ss) [] u = refl
full-room (s ∷ ss) (none ∷ n) u = let z : ◌≡◌ {A = ℕ} 0 1 = cc in absurd (omega arith)
full-room (s ∷ ss) (some x ∷ n) u = full-room ss n u

-- there are no more nodes in a queue than full assignments in its nodes
pub rooms_length : (ss : List ℕ) (ns : List Assignment) → All (λ s. 1 ≤ s) ss → length ns ≤ rooms ss ns
rooms_length ss [] h = omega arith
rooms_length ss (n ∷ ns) h = omega (arith, room_pos ss n h, rooms_length ss ns h)

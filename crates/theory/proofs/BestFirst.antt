-- The moves keep the invariant. Assumes nothing.
use mathlib.Core.Path.{◌≡◌, refl, sym, ◌∙◌}
use mathlib.Core.Logic.{◌⊎◌, inl, inr}
use mathlib.Core.List.{List, [], ◌∷◌, ◌++◌, append-nil}
use mathlib.Core.Bool.{Bool}
use lib.Dec.{T}
use Rattle.model.specs.Lists.{Some, Mem, All, Pairs, keep}
use Rattle.theory.specs.BestFirst.{Apart, Weak, Inv}
use Rattle.theory.proofs.Lists.{some_left, some_right, some_cases, all_map, all_join, all-zip, meet, at-member, pairs-join, pairs-across, some_keep, some_unkeep, pairs-keep}

module _ {F N : Type 0} (◌≺◌ : F → F → Type 0) (In : F → N → Type 0) (Good : F → Type 0) where
  infix 4 ◌≺◌
  -- the first state: one node, which holds each f
  pub start : (n : N) → ((f : F) → Good f → In f n) → Inv ◌≺◌ In Good (n ∷ []) []
  start n h = record {
    apart = (tt, tt);
    ascending = tt;
    good = tt;
    before = λ f s. tt;
    complete = λ f g. inr (inl (h f g));
  }

  -- the queue's order is of no account: another queue with the same members serves as well
  pub requeue : {listed : List F} (queue queue' : List N) → Pairs (Apart In) queue'
      → ((f : F) → Some (In f) queue' → Some (In f) queue) → ((f : F) → Some (In f) queue → Some (In f) queue')
      → Inv ◌≺◌ In Good queue listed → Inv ◌≺◌ In Good queue' listed
  requeue queue queue' apart to from i = record {
    apart = apart;
    ascending = i.ascending;
    good = i.good;
    before = λ f s. i.before f (to f s);
    complete = λ f g. elim (i.complete f g) [ inl m ↦ inl m | inr s ↦ inr (from f s) ];
  }

  -- a node gives way to its children
  pub split : {listed : List F} (n : N) (rest cs : List N)
      → All (λ c. (f : F) → In f c → In f n) cs
      → Pairs (Apart In) cs
      → ((f : F) → Good f → In f n → Some (In f) cs)
      → Inv ◌≺◌ In Good (n ∷ rest) listed → Inv ◌≺◌ In Good (rest ++ cs) listed
  split {listed} n rest cs sub dis cover i = record {
    apart = pairs-join (Apart In) rest cs i.apart.1 dis
        (all_map (λ m a. all_map (λ c s f p q. a f (s f q) p) cs sub) rest i.apart.0);
    ascending = i.ascending;
    good = i.good;
    before = λ f s. i.before f (up f (some_cases (In f) rest cs s));
    complete = λ f g. down f g (i.complete f g);
  }
    where
      up : (f : F) → Some (In f) rest ⊎ Some (In f) cs → Some (In f) (n ∷ rest)
      up f (inl s) = inr s
      up f (inr s) = let m = meet (λ c. (f : F) → In f c → In f n) (In f) cs sub s in inl (m.1 f m.2)

      down : (f : F) → Good f → Mem f listed ⊎ Some (In f) (n ∷ rest) → Mem f listed ⊎ Some (In f) (rest ++ cs)
      down f g (inl m) = inl m
      down f g (inr (inl p)) = inr (some_right (In f) rest cs (cover f g p))
      down f g (inr (inr s)) = inr (some_left (In f) rest cs s)

  -- nodes that hold no good f may go
  pub drop : {listed : List F} (n : N) (rest : List N) → ((f : F) → Good f → In f n → ⊥) → Inv ◌≺◌ In Good (n ∷ rest) listed → Inv ◌≺◌ In Good rest listed
  drop n rest empty i = record {
    apart = i.apart.1;
    ascending = i.ascending;
    good = i.good;
    before = λ f s. i.before f (inr s);
    complete = λ f g. elim (i.complete f g) [ inl m ↦ inl m | inr s ↦ elim s [ inl p ↦ absurd (empty f g p) | inr t ↦ inr t ] ];
  }

  -- the best f of the queue, in a node that holds it alone
  pub list : {listed : List F} (n : N) (rest : List N) (g : F)
      → Good g → In g n → ((f : F) → In f n → f ≡ g)
      → All (λ m. (f : F) → In f m → Weak ◌≺◌ g f) rest
      → Inv ◌≺◌ In Good (n ∷ rest) listed → Inv ◌≺◌ In Good rest (listed ++ (g ∷ []))
  list {listed} n rest g ok here only least i = record {
    apart = i.apart.1;
    ascending = pairs-join ◌≺◌ listed (g ∷ []) i.ascending (tt, tt) (all_map (λ x l. (l, tt)) listed (i.before g (inl here)));
    good = all_join Good listed (g ∷ []) i.good (ok, tt);
    before = λ f s. all_join (λ x. x ≺ f) listed (g ∷ []) (i.before f (inr s)) (ahead f s, tt);
    complete = λ f h. next f (i.complete f h);
  }
    where
      ahead : (f : F) → Some (In f) rest → g ≺ f
      ahead f s =
          let m = meet (λ m. ((f : F) → In f m → Weak ◌≺◌ g f) × Apart In n m) (In f) rest (all-zip _ _ rest least i.apart.0) s in
          elim (m.1.0 f m.2) [ inl e ↦ absurd (m.1.1 f (rw (← e) here) m.2) | inr l ↦ l ]

      next : (f : F) → Mem f listed ⊎ Some (In f) (n ∷ rest) → Mem f (listed ++ (g ∷ [])) ⊎ Some (In f) rest
      next f (inl m) = inl (some_left (λ x. f ≡ x) listed (g ∷ []) m)
      next f (inr (inl p)) = inl (some_right (λ x. f ≡ x) listed (g ∷ []) (inl (only f p)))
      next f (inr (inr s)) = inr s

  -- any nodes that hold no good f may go at once
  pub sieve : {listed : List F} (test : N → Bool) → ((n : N) (f : F) → Good f → In f n → T (test n))
      → (queue : List N) → Inv ◌≺◌ In Good queue listed → Inv ◌≺◌ In Good (keep test queue) listed
  sieve test h queue i = record {
    apart = pairs-keep (Apart In) test queue i.apart;
    ascending = i.ascending;
    good = i.good;
    before = λ f s. i.before f (some_unkeep (In f) test queue s);
    complete = λ f g. elim (i.complete f g) [ inl m ↦ inl m | inr s ↦ inr (some_keep (In f) test (λ n. h n f g) queue s) ];
  }

-- equal or before
module _ {F : Type 0} (◌≺◌ : F → F → Type 0) (trans : (a b c : F) → a ≺ b → b ≺ c → a ≺ c) where
  infix 4 ◌≺◌
  pub weak_refl : (a : F) → Weak ◌≺◌ a a
  weak_refl a = inl refl

  pub weak_trans : (a b c : F) → Weak ◌≺◌ a b → Weak ◌≺◌ b c → Weak ◌≺◌ a c
  weak_trans a b c (inl e) r = rw e r
  weak_trans a b c (inr l) (inl e) = inr (rw e at l)
  weak_trans a b c (inr l) (inr m) = inr (trans a b c l m)

-- ascending lists
module _ {F : Type 0} (◌≺◌ : F → F → Type 0) (irrefl : (a : F) → a ≺ a → ⊥) (trans : (a b c : F) → a ≺ b → b ≺ c → a ≺ c) where
  infix 4 ◌≺◌
  -- each x is a y, and each y is an x or after all of them
  pub prefix : (xs ys : List F) → Pairs ◌≺◌ xs → Pairs ◌≺◌ ys
      → ((f : F) → Mem f xs → Mem f ys)
      → ((f : F) → Mem f ys → Mem f xs ⊎ All (λ x. x ≺ f) xs)
      → (rest : List F) × (ys ≡ xs ++ rest)
  prefix [] ys p q to back = (ys, refl)
  prefix (x ∷ xs) [] p q to back = absurd (to x (inl refl))
  prefix (x ∷ xs) (y ∷ ys) p q to back =
      let r = prefix xs ys p.1 q.1 to' back' in
      let e = r.1 in
      let d = x-is-y in
      (r.0, cc)
    where
      cycle : {A : Type 0} (a b : F) → a ≺ b → b ≺ a → A
      cycle a b l m = absurd (irrefl a (trans a b a l m))

      low : (f : F) → Mem f xs → x ≺ f
      low = at-member (◌≺◌ x) xs p.0

      low' : (f : F) → Mem f ys → y ≺ f
      low' = at-member (◌≺◌ y) ys q.0

      x-is-y : x ≡ y
      x-is-y = elim (to x (inl refl)) [
        | inl e ↦ e
        | inr m ↦ elim (back y (inl refl)) [
          | inl n ↦ elim n [ inl e ↦ sym e | inr k ↦ cycle x y (low y k) (low' x m) ]
          | inr a ↦ cycle x y a.0 (low' x m)
        ]
      ]

      to' : (f : F) → Mem f xs → Mem f ys
      to' f m = elim (to f (inr m)) [ inl e ↦ absurd (irrefl x (rw (e ∙ sym x-is-y) at (low f m))) | inr k ↦ k ]

      back' : (f : F) → Mem f ys → Mem f xs ⊎ All (λ x. x ≺ f) xs
      back' f m = elim (back f (inr m)) [
        | inl n ↦ elim n [ inl e ↦ absurd (irrefl y (rw (e ∙ x-is-y) at (low' f m))) | inr k ↦ inl k ]
        | inr a ↦ inr a.1
      ]

  -- an ascending list is known by its members
  pub unique : (xs ys : List F) → Pairs ◌≺◌ xs → Pairs ◌≺◌ ys
      → ((f : F) → Mem f xs → Mem f ys) → ((f : F) → Mem f ys → Mem f xs) → xs ≡ ys
  unique xs ys p q to back = go r.0 r.1
    where
      r : (rest : List F) × (ys ≡ xs ++ rest)
      r = prefix xs ys p q to (λ f m. inl (back f m))

      go : (rest : List F) → ys ≡ xs ++ rest → xs ≡ ys
      go [] e = sym (e ∙ append-nil xs)
      go (z ∷ zs) e = absurd (irrefl z (at-member (λ x. x ≺ z) xs (all_map (λ x a. a.0) xs (pairs-across ◌≺◌ xs (z ∷ zs) (rw e at q))) z
          (back z (rw e (some_right (λ x. z ≡ x) xs (z ∷ zs) (inl refl))))))

  module _ {N : Type 0} (In : F → N → Type 0) (Good : F → Type 0)
      (whole : List F) (sorted : Pairs ◌≺◌ whole) (sound : (f : F) → Mem f whole → Good f) (full : (f : F) → Good f → Mem f whole) where
    -- what is listed is the first part of the whole
    pub listed-first : {queue : List N} {listed : List F} → Inv ◌≺◌ In Good queue listed → (rest : List F) × (whole ≡ listed ++ rest)
    listed-first {listed} i = prefix listed whole i.ascending sorted
        (λ f m. full f (at-member Good listed i.good f m))
        (λ f m. elim (i.complete f (sound f m)) [ inl k ↦ inl k | inr s ↦ inr (i.before f s) ])

    -- and when nothing is queued, the whole
    pub listed-all : {listed : List F} → Inv ◌≺◌ In Good [] listed → listed ≡ whole
    listed-all {listed} i = unique listed whole i.ascending sorted
        (λ f m. full f (at-member Good listed i.good f m))
        (λ f m. elim (i.complete f (sound f m)) [ inl k ↦ k | inr s ↦ absurd s ])

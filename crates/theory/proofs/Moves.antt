-- What the moves of a listing do to what holds between its steps. Assumes nothing.
use mathlib.Core.Path.{◌≡◌, refl, sym, ◌∙◌, ap}
use mathlib.Core.Logic.{inl, inr}
use mathlib.Core.Bool.{Bool, true, false, not, false≢true}
use mathlib.Core.Option.{none, some}
use mathlib.Core.List.{List, [], ◌∷◌, ◌++◌, append-nil}
use Prim.Native.Nat.{ℕ}
use native.Mathlib.Omega.{arith}
use lib.Dec.{T}
use lib.ListN.{length-append}
use Rattle.model.specs.Lists.{All, any_of}
use Rattle.model.specs.Sheet.{Plant, decision_sizes}
use Rattle.model.specs.Assignment.{Assignment, Fits, Valid, Agree, is_full, value_list, full}
use Rattle.model.specs.Consistency.{Consistent}
use Rattle.model.specs.Conflict.{Conflict, manifests, resolves}
use Rattle.model.specs.Order.{Order, Before, best}
use Rattle.model.specs.Listing.{manifests_any, leave_off, unassigned, enqueue_all, branching, resolving}
use Rattle.theory.specs.BestFirst.{Apart, Inv}
use Rattle.theory.specs.Order.{In, Lawful}
use Rattle.theory.specs.Nodes.{room}
use Rattle.theory.specs.Run.{Good, Children, Searching}
use Rattle.theory.proofs.Lists.{some_map, some_keep, all_map, all-zip, all_join, all_keep, pairs_map, pairs-keep, pairs-swap, sum-keep}
use Rattle.theory.proofs.BestFirst as first
use Rattle.theory.proofs.Nodes.{full-one, full-best, best-least, full-room, unassigned-all, unassigned-valid, unassigned-room, branching-inside, branching-apart, branching-valid, branching-covers, branching-weight, branching-room, resolving-inside, resolving-apart, resolving-valid, resolving-covers, resolving-weight, resolving-room}
use Rattle.theory.proofs.Queue.{enqueue_all-inv, enqueue_all-all, enqueue_all-ordered, enqueue_all-sum}
use Rattle.theory.proofs.Agreement.{full-valid, valid_length, fits_length, agree_length, full-agree}
use Rattle.theory.proofs.Containment.{manifests-agree, full-extends}

-- ---- conflicts and the nodes that manifest them

-- a full node is the full assignment of its values
pub full-values : (n : Assignment) → is_full n ≡ true → full (value_list n) ≡ n
full-values [] e = refl
full-values (none ∷ n) e = let z : ◌≡◌ {A = ℕ} 0 1 = cc in absurd (omega arith)
full-values (some x ∷ n) e = ap {B = Assignment} (λ r. some x ∷ r) (full-values n e)

module _ (p : Plant) where
  -- a node with a good f manifests no conflict
  pub good-free : (f : List ℕ) → Good p f → (n : Assignment) → In (decision_sizes p) f n → (c : Assignment) → Conflict p c → manifests n c ≡ true → ⊥
  good-free f g n i c k m =
      let ln = agree_length f n i.1 in
      let lf = agree_length f (full f) (full-agree f) in
      let lc = valid_length (decision_sizes p) c k.valid in
      let a : Agree f (c ++ []) = manifests-agree n c [] f (omega (arith, fits_length (decision_sizes p) f i.0)) m (rw append-nil i.1) in
      k.inconsistent (full-extends p f c (rw append-nil at a) g.1)

  -- nor any of a list of conflicts
  pub good-kept : (store : List Assignment) → All (Conflict p) store → (f : List ℕ) → Good p f → (n : Assignment) → In (decision_sizes p) f n → T (not (manifests_any store n))
  good-kept [] a f g n i = tt
  good-kept (c ∷ store) a f g n i = go (manifests n c) refl (good-kept store a.1 f g n i)
    where
      go : (b : Bool) → manifests n c ≡ b → T (not (manifests_any store n)) → T (not (manifests_any (c ∷ store) n))
      go true e t = absurd (good-free f g n i c a.0 e)
      go false e t = rw (e, manifests_any, any_of) t

-- ---- the two ways to expand

module _ (p : Plant) (n : Assignment) (valid : Valid (decision_sizes p) n) where
  -- the lowest unassigned variable at each value, of a node that is not full
  pub branching_children : is_full n ≡ false → Children p n (branching (decision_sizes p) n)
  branching_children open' =
      let ss = decision_sizes p in
      record {
        inside = branching-inside ss n valid;
        apart = branching-apart ss n;
        valid = branching-valid ss n valid;
        covers = λ f g a. elim (branching-covers ss n f g.0 a) [ inl e ↦ absurd (false≢true (sym open' ∙ e)) | inr t ↦ t ];
        lighter = branching-weight ss n;
        smaller = branching-room ss n;
      }

  -- the members of a conflict that the node does not resolve, each at its other values
  pub resolving_children : (c : Assignment) → Conflict p c → resolves n c ≡ false → Children p n (resolving (decision_sizes p) n c)
  resolving_children c k e =
      let ss = decision_sizes p in
      record {
        inside = resolving-inside ss n c valid k.valid;
        apart = resolving-apart ss n c;
        valid = resolving-valid ss n c valid k.valid;
        covers = λ f g a. elim (resolving-covers ss n c f e k.valid g.0 a) [ inl u ↦ absurd (k.inconsistent (full-extends p f c u g.1)) | inr t ↦ t ];
        lighter = resolving-weight ss n c k.valid;
        smaller = resolving-room ss n c k.valid;
      }

-- ---- the moves

module _ (p : Plant) (o : Order) (law : Lawful (decision_sizes p) o) where
  -- the first queue: the empty assignment
  pub searching-start : Searching p o (unassigned (decision_sizes p) ∷ []) []
  searching-start =
      let ss = decision_sizes p in
      record {
        search = first.start (Before o) (In ss) (Good p) (unassigned ss) (λ f g. (g.0, unassigned-all ss f g.0));
        valid = (unassigned-valid ss, tt);
        ordered = (tt, tt);
        roomy = omega (arith, unassigned-room ss);
      }

  -- nodes that manifest a conflict may go
  pub searching-sieve : {queue : List Assignment} {listed : List (List ℕ)} (conflicts : List Assignment) → All (Conflict p) conflicts
      → Searching p o queue listed → Searching p o (leave_off conflicts queue) listed
  searching-sieve {queue} conflicts a s =
      let test : Assignment → Bool = λ n. not (manifests_any conflicts n) in
      record {
        search = first.sieve (Before o) (In (decision_sizes p)) (Good p) test (λ n f g i. good-kept p conflicts a f g n i) queue s.search;
        valid = all_keep _ test queue s.valid;
        ordered = pairs-keep _ test queue s.ordered;
        roomy = omega (arith, s.roomy, sum-keep (room (decision_sizes p)) test queue);
      }

  module _ {n : Assignment} {rest : List Assignment} {listed : List (List ℕ)} (s : Searching p o (n ∷ rest) listed) where
    -- a node gives way to its children but those that manifest a conflict
    pub searching-put : (conflicts children : List Assignment) → All (Conflict p) conflicts → Children p n children
        → Searching p o (enqueue_all o (leave_off conflicts children) rest) listed
    searching-put conflicts children a c = record {
      search = enqueue_all-inv o (Before o) (In ss) (Good p) others rest inv;
      valid = (enqueue_all-all o (Valid ss) others rest).1 valid;
      ordered = enqueue_all-ordered ss o law others rest valid (pairs-swap (Apart (In ss)) (λ x y h f i j. h f j i) rest others inv.apart) s.ordered.1;
      roomy = rw (enqueue_all-sum o (room ss) others rest) (omega (arith, s.roomy, c.smaller, sum-keep (room ss) test children));
    }
      where
        ss : List ℕ
        ss = decision_sizes p

        test : Assignment → Bool
        test m = not (manifests_any conflicts m)

        others : List Assignment
        others = leave_off conflicts children

        valid : All (Valid ss) (others ++ rest)
        valid = all_join (Valid ss) others rest (all_keep (Valid ss) test children c.valid) s.valid.1

        inv : Inv (Before o) (In ss) (Good p) (rest ++ others) listed
        inv = first.split (Before o) (In ss) (Good p) n rest others
            (all_keep _ test children (all_map (λ m h f i. (i.0, h f i.1)) children c.inside))
            (pairs-keep _ test children (pairs_map (λ l m h f i j. h f i.1 j.1) children c.apart))
            (λ f g i. some_keep (In ss f) test (λ m j. good-kept p conflicts a f g m j) children (some_map (λ m h. (i.0, h)) children (c.covers f g i.1)))
            s.search

    -- a full node that is inconsistent may go
    pub searching-drop : is_full n ≡ true → (Consistent p n → ⊥) → Searching p o rest listed
    searching-drop e bad = record {
      search = first.drop (Before o) (In (decision_sizes p)) (Good p) n rest
          (λ f g i. bad (rw (full-one n f e i.1, full-values n e) at g.1)) s.search;
      valid = s.valid.1;
      ordered = s.ordered.1;
      roomy = omega (arith, s.roomy);
    }

    -- a full node that is consistent is listed: its state is before all that are queued
    pub searching-list : is_full n ≡ true → Consistent p n → Searching p o rest (listed ++ (value_list n ∷ []))
    searching-list e ok = record {
      search = first.list (Before o) (In ss) (Good p) n rest (value_list n)
          (fits, rw (full-values n e) ok)
          (fits, rw (full-values n e) at (full-agree (value_list n)))
          (λ f i. full-one n f e i.1)
          (all_map (λ m h f i. first.weak_trans (Before o) law.transitive (value_list n) (best o.preferred m) f
          (inr (rw (full-best ss o.preferred n law.preferred s.valid.0 e) at h.0)) (best-least ss o law m h.1 f i))
          rest (all-zip _ (Valid ss) rest s.ordered.0 s.valid.1))
          s.search;
      valid = s.valid.1;
      ordered = s.ordered.1;
      roomy = rw (length-append listed (value_list n ∷ [])) (omega (arith, s.roomy, full-room ss n e));
    }
      where
        ss : List ℕ
        ss = decision_sizes p

        fits : Fits ss (value_list n)
        fits = (full-valid ss (value_list n)).0 (rw (full-values n e) s.valid.0)

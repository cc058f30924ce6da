-- What becomes of the model's queue: an entry put in enqueues its node, the entry due first is that of the first node, and what a test keeps of the entries it keeps of the nodes. Assumes nothing.
use mathlib.Core.Path.{◌≡◌, refl, sym, ap, ◌∙◌}
use mathlib.Core.Logic.{inl, inr}
use mathlib.Core.Bool.{Bool, true, false, not, false≢true}
use mathlib.Core.List.{List, [], ◌∷◌, map}
use Prim.Native.Nat.{ℕ, ◌+◌, ◌-◌, ◌*◌, ◌≤◌}
use native.Mathlib.Omega.{arith}
use lib.ListN.{length, length-map}
use Rattle.model.specs.Lists.{Mem, All, keep_if, keep}
use Rattle.model.specs.Assignment.{Assignment, Valid, assignment_of}
use Rattle.model.specs.Conflict.{manifests}
use Rattle.model.specs.Order.{Order}
use Rattle.model.specs.Listing.{enqueue, leave_off}
use Rattle.theory.specs.Nodes.{sum_of, Ordered}
use Rattle.theory.specs.Words.{Wide}
use Rattle.theory.proofs.Lists.{all_map, all-zip, all_image, at-member}
use Rattle.theory.proofs.Queue.{enqueue-sum, enqueue_length}
use Rattle.queue.specs.Order.{Item, entry_of, mask_in, comes_before, Due, Keyed, Suits}
use Rattle.queue.specs.Entries.{pairs, entries, Same}
use Rattle.queue.specs.Queue.{Ready, Holds}
use Rattle.queue.proofs.EntryLaws.{values_in, node-back}
use Rattle.queue.proofs.PairLaws.{room, length_entries}
use Rattle.queue.proofs.SieveLaws.{Answers}
use Rattle.queue.proofs.SumLaws.{of_all, sum_map, keep_same, same_length, same-member, same-all}

-- ---- an entry is put in

pub holds-push : (o : Order) (n : ℕ) (old new : List ℕ) (queue : List Assignment) (node : Assignment) (e : Item)
    → Holds o n old queue → e ≡ entry_of o node → Ready (n + 1) new → Same (e ∷ entries n old) (entries (n + 1) new) → Holds o (n + 1) new (enqueue o node queue)
holds-push o n old new queue node e h is ready s = record {
  ready = ready;
  same = λ w. omega (arith, sum_map (entry_of o) w (enqueue o node queue), enqueue-sum o (λ m. w (entry_of o m)) node queue, sum_map (entry_of o) w queue, h.same w, ap w is, s w);
  count = enqueue_length o node queue ∙ omega (arith, h.count);
}

-- ---- the entry that is due first is taken out

module _ (ss : List ℕ) {o : Order} (keyed : Keyed ss o) {n : ℕ} {old : List ℕ} {node : Assignment} {rest : List Assignment} (valid : All (Valid ss) (node ∷ rest)) (ordered : Ordered o (node ∷ rest)) (h : Holds o n old (node ∷ rest))
    {e : Item} (least : All (Due e) (entries n old)) where
  -- it is that of the first node: the first node's entry comes before each other's, and no entry comes before it
  first-node : (es : List Item) → Same (entries n old) (e ∷ es) → e ≡ entry_of o node
  first-node es s = go (same-member (map (entry_of o) (node ∷ rest)) (e ∷ es) (λ w. h.same w ∙ s w) e (inl refl))
    where
      earlier : All (λ y. comes_before (entry_of o node) y ≡ true) (map (entry_of o) rest)
      earlier = all_image (entry_of o) (λ y. comes_before (entry_of o node) y ≡ true) rest (all_map (λ m h. keyed node m valid.0 h.0 h.1) rest (all-zip (Valid ss) _ rest valid.1 ordered.0))

      due : Due e (entry_of o node)
      due = (same-all (Due e) (entries n old) (map (entry_of o) (node ∷ rest)) (λ w. sym (h.same w)) least).0

      go : Mem e (map (entry_of o) (node ∷ rest)) → e ≡ entry_of o node
      go (inl p) = p
      go (inr m) = absurd (false≢true (sym due ∙ at-member (λ y. comes_before (entry_of o node) y ≡ true) (map (entry_of o) rest) earlier e m))

  -- and the others are held
  pub holds_pop : (new : List ℕ) → Ready (n - 1) new → Same (entries n old) (e ∷ entries (n - 1) new) → (e ≡ entry_of o node) × Holds o (n - 1) new rest
  holds_pop new ready s =
      let is : e ≡ entry_of o node = first-node (entries (n - 1) new) s in
      (is, record { ready = ready; same = λ w. omega (arith, h.same w, s w, ap w is); count = omega (arith, h.count) })

-- ---- the entries of nodes that manifest a conflict are left out

-- an entry's node does not manifest c, where it is a node as long as c
pub spared : Bool → Assignment → Item → Bool
spared w c e = not (manifests (assignment_of (length c) (mask_in e.1) (values_in w e)) c)

module _ (ss : List ℕ) (o : Order) (c : Assignment) (suits : Suits ss o) (long : length c ≡ length ss) where
  -- that is said of a node's entry where the node does not
  spared-node : (m : Assignment) → Valid ss m → spared o.weighed c (entry_of o m) ≡ not (manifests m c)
  unfolding spared
  spared-node m v = rw (long, node-back ss o m suits v)

  -- the entries of the nodes that are left are those that are spared
  spared-nodes : (queue : List Assignment) → All (Valid ss) queue → map (entry_of o) (leave_off (c ∷ []) queue) ≡ keep (spared o.weighed c) (map (entry_of o) queue)
  spared-nodes [] v = refl
  spared-nodes (m ∷ queue) v = rw (spared-node m v.0) (go (manifests m c) (leave_off (c ∷ []) queue) (keep (spared o.weighed c) (map (entry_of o) queue)) (spared-nodes queue v.1))
    where
      go : (b : Bool) (ns : List Assignment) (es : List Item) → map (entry_of o) ns ≡ es
          → map (entry_of o) (keep_if (not (elim b [ true ↦ true | false ↦ false ])) m ns) ≡ keep_if (not b) (entry_of o m) es
      go true ns es e = e
      go false ns es e = ap (λ (es : List Item). entry_of o m ∷ es) e

  module _ (n : ℕ) (old : List ℕ) (queue : List Assignment) (h : Holds o n old queue) (valid : All (Valid ss) queue) where
    -- what `stays` answers of each entry is whether it is spared
    pub stays_spared : (weighed : Bool) → weighed ≡ o.weighed → (wide values : ℕ) → Wide c wide values → 2 * n ≤ length old → Answers weighed wide values n (pairs old) (spared o.weighed c)
    unfolding entries
    stays_spared weighed is wide values w space i l r stays =
        let nodes = all_image (entry_of o) (λ e. (m : Assignment) × Valid ss m × (e ≡ entry_of o m)) queue (all_map (λ m v. (m, v, refl)) queue valid) in
        let f = of_all _ (pairs old) n (room old n space) (same-all _ (map (entry_of o) queue) (entries n old) h.same nodes) i l in
        stays ss o f.0 c suits is f.1 f.2 w long ∙ sym (ap (spared o.weighed c) f.2 ∙ spared-node f.0 f.1)

    -- the spared entries are the queue's without the nodes that manifest c
    pub holds-sieve : (count : ℕ) (new : List ℕ) → 2 * count ≤ length new → Ready count new → Same (keep (spared o.weighed c) (entries n old)) (entries count new) → Holds o count new (leave_off (c ∷ []) queue)
    holds-sieve count new space ready s =
        let same : Same (map (entry_of o) (leave_off (c ∷ []) queue)) (entries count new) =
        λ w. ap (sum_of w) (spared-nodes queue valid) ∙ keep_same (spared o.weighed c) (map (entry_of o) queue) (entries n old) h.same w ∙ s w in
        record {
          ready = ready;
          same = same;
          count = sym (length-map (leave_off (c ∷ []) queue) (entry_of o)) ∙ same_length (map (entry_of o) (leave_off (c ∷ []) queue)) (entries count new) same ∙ length_entries count new space;
        }

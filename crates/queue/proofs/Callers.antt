-- What a caller of the queue needs besides the contracts: a queue with no nodes, nodes put in one after another, and that the orders of both editions are such as the queue is for. Assumes nothing.
use mathlib.Core.Path.{◌≡◌, refl, sym, ◌∙◌, subst}
use mathlib.Core.Bool.{Bool, true, false}
use mathlib.Core.List.{List, [], ◌∷◌, ◌++◌}
use Prim.Native.Nat.{ℕ, ◌≤◌}
use native.Mathlib.Omega.{arith}
use lib.ListN.{length, length-map}
use Rattle.model.specs.Sheet.{Plant, edition_of, decision_sizes}
use Rattle.model.specs.Assignment.{Assignment}
use Rattle.model.specs.Order.{Order, figure_of, order_of}
use Rattle.model.specs.Listing.{enqueue, enqueue_all}
use Rattle.theory.specs.Plant.{Accepted}
use Rattle.theory.proofs.Lists.{all_map, all_image, sum-join}
use Rattle.theory.proofs.Bounds.{few-weighed, cost-fits, chance-fits}
use Rattle.theory.proofs.Order.{edition-lawful}
use Rattle.theory.proofs.Queue.{enqueue-sum, enqueue_all-sum}
use Rattle.theory.proofs.Value.{edition-few, edition-weighed}
use Rattle.queue.specs.Order.{entry_of, FigureFits, Suits}
use Rattle.queue.specs.Entries.{entries, Same}
use Rattle.queue.specs.Inside.{HeapFrom}
use Rattle.queue.specs.Queue.{Ready, Holds}
use Rattle.queue.proofs.SumLaws.{sum_map, same_length}

module _ (o : Order) where
  -- any words hold the queue with no nodes
  pub holds-nothing : (words : List ℕ) → Holds o 0 words []
  unfolding Ready HeapFrom entries
  holds-nothing words = record { ready = λ p c h k l. absurd (omega arith); same = λ w. refl; count = refl }

  -- in which order the queue's nodes are named does not matter
  pub holds_reordered : (n : ℕ) (words : List ℕ) (queue other : List Assignment) → Same queue other → Holds o n words queue → Holds o n words other
  holds_reordered n words queue other s h = record {
    ready = h.ready;
    same = λ w. sum_map (entry_of o) w other ∙ sym (s (λ m. w (entry_of o m))) ∙ sym (sum_map (entry_of o) w queue) ∙ h.same w;
    count = sym (same_length queue other s) ∙ h.count;
  }

  -- nodes put in one after another are all put in, though the model puts in the last one first
  pub holds-next : (n : ℕ) (words : List ℕ) (queue nodes : List Assignment) (node : Assignment)
      → Holds o n words (enqueue o node (enqueue_all o nodes queue)) → Holds o n words (enqueue_all o (nodes ++ (node ∷ [])) queue)
  holds-next n words queue nodes node = holds_reordered n words (enqueue o node (enqueue_all o nodes queue)) (enqueue_all o (nodes ++ (node ∷ [])) queue)
      (λ w. omega (arith, enqueue-sum o w node (enqueue_all o nodes queue), enqueue_all-sum o w nodes queue, enqueue_all-sum o w (nodes ++ (node ∷ [])) queue, sum-join w nodes (node ∷ [])))

-- the order of either edition suits its plants' nodes
pub edition-suits : (w : Bool) (p : Plant) → Accepted (edition_of w) p → Suits (decision_sizes p) (order_of (edition_of w) p)
unfolding order_of
edition-suits w p a = record {
  few = rw (length-map p.costs length) (edition-few w p a);
  fewer = λ e. rw (length-map p.costs length) (fewer w a (sym (edition-weighed w) ∙ e));
  small = all_image length (λ s. s ≤ 16) p.costs (all_map (λ row z. z.1) p.costs a.decision_sizes_lem);
  preferred = (edition-lawful w p a).preferred;
  figures = λ f h. rw (edition-weighed w) (figures w a f);
}
  where
    fewer : (u : Bool) → Accepted (edition_of u) p → u ≡ true → length p.costs ≤ 8
    fewer u b e = few-weighed p (subst (λ (x : Bool). Accepted (edition_of x) p) e b)

    figures : (u : Bool) → Accepted (edition_of u) p → (f : List ℕ) → FigureFits u (figure_of u p.costs f)
    figures false b f = cost-fits p b f
    figures true b f = chance-fits p b f

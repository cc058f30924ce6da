-- `store::clear_from` meets its contract: the masks are narrowed, and all words behind the entries are zero. Assumes nothing.
use Rattle.store.proofs.Clearing.{zeroed-behind}
use Rattle.store.proofs.clear_from.Goals as goal

pub returns : goal.returns
returns c d conflicts k = zeroed-behind k _ _ c.narrow_masks.auto.store (c.narrow_masks.ensures d conflicts k) (c.fill.ensures.after (λ y e. e))

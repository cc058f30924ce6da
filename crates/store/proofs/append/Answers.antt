-- `store::append` meets its contract: a widened mask and values written behind the entries are one entry more, and no word after it is written. Assumes nothing.
use mathlib.Core.Path.{◌∙◌}
use Prim.Native.Nat.{◌+◌, ◌*◌}
use native.Mathlib.Omega.{arith}
use lib.ListN.{set, length-set}
use lib.Seq.{drop-set-lt}
use Rattle.store.proofs.Entries.{keeps_append}
use Rattle.store.proofs.append.Goals as goal

pub bounds-store-m-2 : goal.bounds-store-m-2
bounds-store-m-2 c = simp length-set (omega arith)

pub returns : goal.returns
returns c =
    let s = c.args in
    let wide = c.widened-wide.result in record {
      kept = λ d conflicts a k w e. keeps_append k w e c.widened-wide.ensures c.requires;
      behind = drop-set-lt (2 * s.m + 2) (set s.store.now (2 * s.m) wide) (2 * s.m + 1) s.values (omega arith)
          ∙ drop-set-lt (2 * s.m + 2) s.store.now (2 * s.m) wide (omega arith);
    }

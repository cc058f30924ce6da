-- `leading_reduce` meets its contract: a refusal leaves the lent words, and each other answer writes two, a conflict two more. Assumes nothing.
use mathlib.Core.Path.{refl}
use Rattle.export.proofs.Reducing.{written, reduce-short, conflict-long, result-long, reduce-exported}
use Rattle.export.proofs.leading_reduce.Goals as goal

pub returns-then-conflict-res : goal.returns-then-conflict-res
returns-then-conflict-res c =
    let s = c.args in
    let told = reduce-short s.sheet.now s.mask s.values s.limit s.conflict.now s.res.now c.if-conflict-res.true in
    rw c.number.ensures record { equation = told.0; right = told.1 }

pub written-requires : goal.written-requires
written-requires c = (result-long c.args.sheet.now c.args.mask c.args.values c.args.limit c.args.conflict.now c.args.res.now c.if-conflict-res.false)

pub written-requires-in-Ok-Spent : goal.written-requires-in-Ok-Spent
written-requires-in-Ok-Spent c = (result-long c.args.sheet.now c.args.mask c.args.values c.args.limit c.args.conflict.now c.args.res.now c.if-conflict-res.false)

pub put-requires : goal.put-requires
put-requires c = (conflict-long c.args.sheet.now c.args.mask c.args.values c.args.limit c.args.conflict.now c.args.res.now c.if-conflict-res.false)

pub written-requires-in-Ok-Conflict : goal.written-requires-in-Ok-Conflict
written-requires-in-Ok-Conflict c = (result-long c.args.sheet.now c.args.mask c.args.values c.args.limit c.args.conflict.now c.args.res.now c.if-conflict-res.false)

pub returns-in-Err : goal.returns-in-Err
returns-in-Err c =
    let told = (reduce-exported c.args.sheet.now c.args.mask c.args.values c.args.limit c.args.conflict.now c.args.res.now c.if-conflict-res.false c.reduce_call.result c.reduce_call.ensures.answer c.reduce_call.ensures.right _ c.in-Err.is c.number-in-Err.ensures refl refl) in
    record { equation = told.0; right = told.1 }

pub returns-in-Ok-None : goal.returns-in-Ok-None
returns-in-Ok-None c =
    let w = c.written in
    let told = (reduce-exported c.args.sheet.now c.args.mask c.args.values c.args.limit c.args.conflict.now c.args.res.now c.if-conflict-res.false c.reduce_call.result c.reduce_call.ensures.answer c.reduce_call.ensures.right _ (rw c.in-Ok-None.field-0-is at c.in-Ok-None.is) w.ensures.0 refl w.ensures.1) in
    record { equation = told.0; right = told.1 }

pub returns-in-Ok-Spent : goal.returns-in-Ok-Spent
returns-in-Ok-Spent c =
    let w = c.written-in-Ok-Spent in
    let told = (reduce-exported c.args.sheet.now c.args.mask c.args.values c.args.limit c.args.conflict.now c.args.res.now c.if-conflict-res.false c.reduce_call.result c.reduce_call.ensures.answer c.reduce_call.ensures.right _ (rw c.in-Ok-Spent.field-0-is at c.in-Ok-Spent.is) w.ensures.0 refl w.ensures.1) in
    record { equation = told.0; right = told.1 }

pub returns-in-Ok-Conflict : goal.returns-in-Ok-Conflict
returns-in-Ok-Conflict c =
    let w = c.written-in-Ok-Conflict in
    let told = (reduce-exported c.args.sheet.now c.args.mask c.args.values c.args.limit c.args.conflict.now c.args.res.now c.if-conflict-res.false c.reduce_call.result c.reduce_call.ensures.answer c.reduce_call.ensures.right _ (rw c.in-Ok-Conflict.field-0-is at c.in-Ok-Conflict.is) w.ensures.0 c.put.ensures w.ensures.1) in
    record { equation = told.0; right = told.1 }

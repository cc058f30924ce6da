-- `leading_test` meets its contract: a refusal leaves what was lent, and each other answer writes what it shows and two result words. Assumes nothing.
use mathlib.Core.Path.{refl}
use Rattle.export.proofs.Testing.{test_short, test-exported}
use Rattle.export.proofs.leading_test.Goals as goal

pub returns-then-res-lt-TEST_WORDS : goal.returns-then-res-lt-TEST_WORDS
returns-then-res-lt-TEST_WORDS c =
    let s = c.args in
    let told = test_short s.sheet.now s.mask s.values s.limit s.shown.now s.res.now c.if-res-lt-TEST_WORDS.true in
    rw c.number.ensures record { equation = told.0; right = told.1 }

pub returns-in-Err : goal.returns-in-Err
returns-in-Err c =
    let s = c.args in
    let r = c.test_call-test in
    let told = test-exported s.sheet.now s.mask s.values s.limit s.shown.now s.res.now c.if-res-lt-TEST_WORDS.false
    r.result r.ensures.answer r.ensures.values r.ensures.right _ c.in-Err.is c.number-in-Err.ensures refl refl in
    record { equation = told.0; right = told.1 }

pub returns-in-Ok : goal.returns-in-Ok
returns-in-Ok c =
    let s = c.args in
    let r = c.test_call-test in
    let w = c.tested.ensures in
    let told = test-exported s.sheet.now s.mask s.values s.limit s.shown.now s.res.now c.if-res-lt-TEST_WORDS.false
    r.result r.ensures.answer r.ensures.values r.ensures.right _ c.in-Ok.is w.0 w.1 w.2 in
    record { equation = told.0; right = told.1 }

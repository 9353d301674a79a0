-- What is noted so far, with the scan that is left, says what the whole check does. Assumes nothing.
use Rattle.std.proofs.lemmas.Result.{err_from_is_err_and}
use Prim.Native.Nat.{zero-le}
use mathlib.Core.Path.{refl}
use mathlib.Core.Logic.{inl, inr}
use native.Mathlib.Nat.{sub-zero}
use native.Mathlib.Omega.{arith}
use Rattle.recipe.specs.Scan.{check_of}
use Rattle.recipe.proofs.Checks.{seen_passed, turn, out_full, out_bad, out_end}
use Rattle.recipe.proofs.Checks.{out_enough}
use Rattle.recipe.proofs.scan.check.Goals as goal
use Rattle.recipe.proofs.scan.check.Goals.{then-number-wanted, else-number-wanted}

pub loop-number-init : goal.loop-number-init
unfolding check_of
loop-number-init c = record { inside = zero-le; counted = refl; limits = zero-le; told = rw sub-zero }

pub returns-then-c-s : goal.returns-then-c-s
returns-then-c-s c = out_end _ _ _ _ _ _ _ _ c.loop-number.invariant.told c.if-c-s.true

pub returns-in_err-seen : goal.returns-in_err-seen
returns-in_err-seen c =
    let p = err_from_is_err_and c.from_residual.result c.from_residual.ensures.1 in
    rw (p.1, p.2)
    (out_bad _ _ _ _ _ _ _ _ c.loop-number.invariant.told _ _ (omega (arith, c.loop-number-test.true)) c.if-c-s.false
    c.in_err-seen.ensures)

pub overflow_add-c-in-loop-number : goal.overflow_add-c-in-loop-number
overflow_add-c-in-loop-number c =
    let p = seen_passed _ _ _ c.in_ok-seen.ensures in
    elim c.if-number-wanted.branch [
      | then-number-wanted w ↦ rw w.c-is (omega arith)
      | else-number-wanted w ↦ rw w.c-is (omega arith)
    ]

pub loop-number-preserved : goal.loop-number-preserved
loop-number-preserved c =
    let p = seen_passed _ _ _ c.in_ok-seen.ensures in
    let told = rw c.loop-number.invariant.counted at c.loop-number.invariant.told in
    rw c.from.ensures
    (elim c.if-number-wanted.branch [
      | then-number-wanted w ↦ rw w.c-is
          (record {
            inside = p.inside;
            counted = refl;
            limits = omega arith;
            told = turn _ _ _ _ _ _ _ _ _ _ _ _ _ _ (omega (arith, c.loop-number-test.true)) c.if-c-s.false p
                (inl (w.if-number-wanted.true, refl, refl)) told;
          })
      | else-number-wanted w ↦ rw w.c-is
          (record {
            inside = p.inside;
            counted = refl;
            limits = omega arith;
            told = turn _ _ _ _ _ _ _ _ _ _ _ _ _ _ (omega (arith, c.loop-number-test.true)) c.if-c-s.false p
                (inr (w.if-number-wanted.false, refl, refl)) told;
          })
    ])

pub returns-then-all-c : goal.returns-then-all-c
returns-then-all-c c =
    out_full _ _ _ _ _ _ _ _ c.loop-number.invariant.told (omega (arith, c.loop-number-test.false)) c.if-all-c.true

pub returns : goal.returns
returns c =
    out_enough _ _ _ _ _ _ _ _ c.loop-number.invariant.told (omega (arith, c.loop-number-test.false)) c.if-all-c.false

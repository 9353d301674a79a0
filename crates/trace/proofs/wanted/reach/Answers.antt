-- Each way out is one of the rule's. Assumes nothing.
use mathlib.Core.Path.{refl, sym}
use native.Mathlib.Omega.{arith}
use lib.Ieee.{of_bits}
use lib.Seq.{length-take-le}
use borrow.Author.Rules.{rules}
use borrow.Author.Tests.{le-leb}
use Rattle.std.proofs.lemmas.Result.{err_from_is_err_and}
use Rattle.numbers.specs.Arithmetic.{decimal}
use Rattle.recipe.specs.Scan.{passed}
use Rattle.trace.specs.Run.{most_records}
use Rattle.trace.specs.Wanted.{reach_of}
use Rattle.trace.proofs.Starts.{fault_not_1}
use Rattle.trace.proofs.Reaches.{reach_bad, reach_short, reach_ray, Asked, cut_inside, walk_ready}
use Rattle.trace.proofs.Reaches.{reach_done}
use Rattle.trace.proofs.wanted.reach.Goals as goal
use Rattle.trace.proofs.wanted.reach.Goals.{In_ok-admit}

-- where all checks have passed
asked : (c : In_ok-admit) → let a = c.args in Asked a.recipe.now a.ray a.index a.wanted (passed c.in_ok-c.c)
asked c =
    record {
      low = c.if-wanted-ge-MOST_RECORDS.false;
      checked = c.in_ok-c.ensures;
      good = refl;
      there = c.if-c-wanted.false;
      beam = sym c.in_ok-admit.ensures;
    }

pub returns-then-wanted-ge-MOST_RECORDS : goal.returns-then-wanted-ge-MOST_RECORDS
unfolding reach_of
returns-then-wanted-ge-MOST_RECORDS c =
    let a = c.args in
    rw (le-leb most_records a.wanted c.if-wanted-ge-MOST_RECORDS.true, c.from.ensures)

pub returns-in_err-c : goal.returns-in_err-c
returns-in_err-c c =
    let a = c.args in
    let p = err_from_is_err_and c.from_residual.result c.from_residual.ensures.1 in
    rw (p.1, p.2)
    (reach_bad a.recipe.now a.ray a.index a.wanted c.if-wanted-ge-MOST_RECORDS.false _ c.in_err-c.ensures
    (fault_not_1 _))

pub returns-then-c-wanted : goal.returns-then-c-wanted
returns-then-c-wanted c =
    let a = c.args in
    rw c.from-then-c-wanted.ensures
    (reach_short a.recipe.now a.ray a.index a.wanted c.if-wanted-ge-MOST_RECORDS.false _ c.in_ok-c.ensures refl
    c.if-c-wanted.true)

pub returns-in_err-admit : goal.returns-in_err-admit
returns-in_err-admit c =
    let a = c.args in
    let p = err_from_is_err_and c.from_residual-in_err-admit.result c.from_residual-in_err-admit.ensures.1 in
    rw (p.1, p.2)
    (reach_ray a.recipe.now a.ray a.index a.wanted c.if-wanted-ge-MOST_RECORDS.false _ c.in_ok-c.ensures refl
    c.if-c-wanted.false c.in_err-admit.ensures (fault_not_1 _))

pub slice_bounds-walk-end : goal.slice_bounds-walk-end
slice_bounds-walk-end c =
    sym (length-take-le _ _ (cut_inside (asked (goal.at.slice_bounds-walk-end c).In_ok-admit)))

pub walk-requires : goal.walk-requires
unfolding decimal of_bits
walk-requires c =
    let first = c.first-first.ensures in
    (rw first (walk_ready (asked (goal.at.walk-requires c).In_ok-admit)), rw first (omega arith))

pub returns : goal.returns
unfolding decimal of_bits
returns c =
    reach_done (asked (goal.at.returns c).In_ok-admit) _ _ (search rules)
    (rw c.first-first.ensures at c.walk.ensures)

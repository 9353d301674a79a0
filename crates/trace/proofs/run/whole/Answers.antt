-- Start, then all the steps that there can be. Assumes nothing.
use Rattle.std.proofs.Common.{refl, sym}
use native.Mathlib.Nat.{zero-add}
use Rattle.std.proofs.lemmas.Result.{err_from_is_err_and}
use Rattle.trace.specs.Run.{refused_answer}
use Rattle.trace.proofs.Starts.{fault_not_1, why_not_1, bad_begun}
use Rattle.trace.proofs.Wholes.{whole_refused, whole_ready, whole_done}
use Rattle.trace.proofs.run.whole.Goals as goal

pub returns-in_err-c : goal.returns-in_err-c
unfolding refused_answer
returns-in_err-c c =
    let a = c.args in
    let p = err_from_is_err_and c.from_residual.result c.from_residual.ensures.1 in
    rw (p.1, p.2)
    (whole_refused a.recipe.now a.ray a.index a.buf.now _ c.in_err-c.ensures _ c.blank_out.ensures _
    (bad_begun _ 0 _ a.ray a.index _ (sym (zero-add _))) (fault_not_1 _))

pub returns-in_err-s : goal.returns-in_err-s
unfolding refused_answer
returns-in_err-s c =
    let a = c.args in
    let p = err_from_is_err_and c.from_residual-in_err-s.result c.from_residual-in_err-s.ensures.1 in
    rw (p.1, p.2)
    (whole_refused a.recipe.now a.ray a.index a.buf.now _ c.in_ok-c.ensures _ c.blank_out.ensures _
    c.in_err-s.ensures (why_not_1 _))

pub walk-requires : goal.walk-requires
walk-requires c =
    let a = c.args in
    whole_ready a.recipe.now a.ray a.index a.buf.now _ c.in_ok-c.ensures _ c.blank_out.ensures _ c.in_ok-s.ensures refl

pub returns : goal.returns
returns c =
    let a = c.args in
    whole_done a.recipe.now a.ray a.index a.buf.now _ c.in_ok-c.ensures _ c.blank_out.ensures _ c.in_ok-s.ensures refl _
    c.walk.ensures

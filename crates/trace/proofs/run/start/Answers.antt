-- Start is what its checks say, beside a blank buffer. Assumes nothing.
use Rattle.std.proofs.Common.{sym}
use native.Mathlib.Nat.{zero-add}
use Rattle.std.proofs.lemmas.Result.{err_from_is_err_and}
use Rattle.trace.specs.Run.{start_of}
use Rattle.trace.proofs.Starts.{start_fails, start_begins}
use Rattle.trace.proofs.run.start.Goals as goal

pub returns-in_err-checked : goal.returns-in_err-checked
unfolding start_of
returns-in_err-checked c =
    let a = c.args in
    let p = err_from_is_err_and c.from_residual.result c.from_residual.ensures.1 in
    rw (p.1, p.2)
    (start_fails a.recipe.now 0 a.ray a.index a.buf.now _ c.blank_out.ensures _ c.in_err-checked.ensures _
    (sym (zero-add _)))

pub returns : goal.returns
unfolding start_of
returns c =
    let a = c.args in
    start_begins a.recipe.now 0 a.ray a.index a.buf.now _ c.blank_out.ensures _ c.in_ok-checked.ensures _
    c.begin.ensures

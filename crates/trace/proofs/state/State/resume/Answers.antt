-- Each way out of a continuation is one of its rule's. Assumes nothing.
use mathlib.Core.Path.{refl, sym, ◌∙◌}
use native.Mathlib.Omega.{arith}
use lib.ListN.{length}
use Rattle.std.proofs.lemmas.Result.{err_from_is_err_and}
use Rattle.trace.proofs.Starts.{fault_not_1, too_short, long_enough, on_bad, on_short, on_unfit, on_run, on_ready}
use Rattle.trace.proofs.Starts.{on_steps, limits_few}
use Rattle.trace.proofs.state.State.resume.Goals as goal

pub returns-in_err-c : goal.returns-in_err-c
returns-in_err-c c =
    let a = c.args in
    let p = err_from_is_err_and c.from_residual.result c.from_residual.ensures.1 in
    rw (p.1, p.2) (on_bad a.recipe.now a.self a.buf.now a.allowed _ c.in_err-c.ensures (fault_not_1 _))

pub returns-in_err-fit : goal.returns-in_err-fit
returns-in_err-fit c =
    let a = c.args in
    let p = err_from_is_err_and c.from_residual-in_err-fit.result c.from_residual-in_err-fit.ensures.1 in
    let short = too_short _ (length a.buf.now) c.in_ok-c.c.count c.in_err-fit.ensures in
    rw (p.1, p.2, short.0) (on_short a.recipe.now a.self a.buf.now a.allowed _ c.in_ok-c.ensures refl short.1)

pub returns-then-not-fits : goal.returns-then-not-fits
returns-then-not-fits c =
    let a = c.args in
    let unfit = sym c.fits.ensures ∙ c.if-not-fits.true in
    rw c.from.ensures
    (on_unfit a.recipe.now a.self a.buf.now a.allowed _ c.in_ok-c.ensures refl
    (long_enough _ _ c.in_ok-fit.ensures) unfit)

pub walk-requires : goal.walk-requires
walk-requires c =
    let a = c.args in
    let checked = c.in_ok-c.ensures in
    let roomy = long_enough _ _ c.in_ok-fit.ensures in
    let fits = sym c.fits.ensures ∙ c.if-not-fits.false in
    let few = on_steps a.recipe.now a.self a.buf.now a.allowed _ checked refl roomy fits in (
      on_ready a.recipe.now a.self a.buf.now a.allowed _ checked refl roomy fits,
      omega (arith, few, limits_few a.recipe.now),
    )

pub returns : goal.returns
returns c =
    let a = c.args in
    on_run a.recipe.now a.self a.buf.now a.allowed _ c.in_ok-c.ensures refl (long_enough _ _ c.in_ok-fit.ensures)
    (sym c.fits.ensures ∙ c.if-not-fits.false) _ c.walk.ensures

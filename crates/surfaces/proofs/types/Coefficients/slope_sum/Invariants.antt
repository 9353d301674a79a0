use mathlib.Core.Path.{◌≡◌}
use lib.ListN.{drop}
use Rattle.surfaces.specs.Asphere.{slope_sum, slope_sum_from}
use Rattle.surfaces.proofs.types.Coefficients.slope_sum.Given as goal

abbrev pub invariant-loop-i : goal.invariant-loop-i
invariant-loop-i l =
    slope_sum_from l.i l.sum (drop l.i l.terms) l.exponent l.p l.r2 ≡ slope_sum l.terms l.exponent l.power l.r2

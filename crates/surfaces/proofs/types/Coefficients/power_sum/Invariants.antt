use mathlib.Core.Path.{◌≡◌}
use lib.ListN.{drop}
use Rattle.surfaces.specs.Asphere.{power_sum, power_sum_from}
use Rattle.surfaces.proofs.types.Coefficients.power_sum.Given as goal

abbrev pub invariant-loop-term : goal.invariant-loop-term
invariant-loop-term l = power_sum_from l.sum (drop l.term-index l.terms) l.p l.r2 ≡ power_sum l.terms l.power l.r2

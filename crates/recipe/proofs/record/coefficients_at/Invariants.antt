use mathlib.Core.Path.{◌≡◌}
use Rattle.recipe.specs.Record.{coefficients_at}
use Rattle.recipe.proofs.record.coefficients_at.Given as goal

abbrev pub invariant-loop-i : goal.invariant-loop-i
invariant-loop-i l = l.values ≡ (coefficients_at l.s l.at l.i).values

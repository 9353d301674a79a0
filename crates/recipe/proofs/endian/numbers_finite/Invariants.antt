use Prim.Native.Nat.{◌+◌, ◌-◌, ◌*◌}
use mathlib.Core.Path.{◌≡◌}
use Rattle.surfaces.specs.Types.{every_finite}
use Rattle.recipe.specs.Endian.{numbers_at}
use Rattle.recipe.proofs.endian.numbers_finite.Given as goal

abbrev pub invariant-loop-i : goal.invariant-loop-i
invariant-loop-i l =
    every_finite (numbers_at l.s (l.at + 8 * l.i) (l.n - l.i)) ≡ every_finite (numbers_at l.s l.at l.n)

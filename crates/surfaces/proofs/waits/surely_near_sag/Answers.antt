-- A surface of a curvature below 0 is the mirror image of one above. Assumes nothing.
use mathlib.Core.Path.{◌≡◌}
use mathlib.Core.Bool.{not, ◌||◌, false, false≢true}
use lib.Ieee.{of_bits}
use lib.Ieee.Scale.{finite}
use Rattle.numbers.specs.Arithmetic.{◌<₆₄◌, decimal, 1e-15}
use Rattle.numbers.specs.Basic.{magnitude}
use Rattle.numbers.proofs.Mirror.{neg_twice}
use Rattle.surfaces.proofs.Sheet.{near_on_sheet}
use Rattle.surfaces.proofs.waits.surely_near_sag.Goals as goal
use Rattle.surfaces.proofs.waits.surely_near_sag.Goals.{Else-is_finite-abs}

-- a curved surface with a finite conic constant
curved : (c : Else-is_finite-abs) →
    let a = c.args in
    (not (finite a.k) || (magnitude a.c <₆₄ 1e-15)) ≡ false
unfolding decimal of_bits
curved c = rw (← c.is_finite.ensures, ← c.abs.ensures) c.if-is_finite-abs.false

pub returns-then-is_finite-abs : goal.returns-then-is_finite-abs
unfolding decimal of_bits
returns-then-is_finite-abs c h = absurd (false≢true h)

pub returns-then-c : goal.returns-then-c
unfolding decimal of_bits
returns-then-c c h =
    let a = c.args in
    near_on_sheet a.c a.k a.z _ (curved (goal.at.returns-then-c c).Else-is_finite-abs)
    (simp neg_twice at (c.surely_near.ensures h).1)

pub returns-else-c : goal.returns-else-c
unfolding decimal of_bits
returns-else-c c h =
    let a = c.args in
    near_on_sheet a.c a.k a.z _ (curved (goal.at.returns-else-c c).Else-is_finite-abs)
    (c.surely_near-else-c.ensures h).0

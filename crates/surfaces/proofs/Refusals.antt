-- A refusal's number is neither 1, an answer's, nor 0, an unfinished pass's. Assumes nothing.
use Rattle.numbers.proofs.Literals.{literals}
use Prim.Native.Nat.{◌≤◌}
use mathlib.Core.Path.{◌≡◌}
use mathlib.Core.Bool.{false}
use native.Mathlib.Omega.{arith}
use borrow.Author.Tests.{ne_eqb}
use lib.Dec.{eqb}
use Rattle.surfaces.specs.Refusal.{line_of}
use Rattle.surfaces.specs.declared.refusal.Refusal.{Refusal}
use Rattle.surfaces.specs.declared.refusal.Refusal.TheVariants.{InvalidParameter, InvalidSurface}
use Rattle.surfaces.specs.declared.refusal.Refusal.TheVariants.{NumericalSingularity, GeometryOutsideAperture}
use Rattle.surfaces.specs.declared.refusal.Refusal.TheVariants.{RayMissedSurface, RayVignetted}
use Rattle.surfaces.specs.declared.refusal.Refusal.TheVariants.{TotalInternalReflection, NotFinite}

above_one : (e : Refusal) → 2 ≤ (line_of e).number
above_one InvalidParameter = omega arith
above_one InvalidSurface = omega arith
above_one NumericalSingularity = omega arith
above_one GeometryOutsideAperture = omega arith
above_one RayMissedSurface = omega arith
above_one (RayVignetted r l) = omega arith
above_one TotalInternalReflection = omega arith
above_one NotFinite = omega arith

pub never_done : (e : Refusal) → eqb (line_of e).number 1 ≡ false
never_done e = ne_eqb (line_of e).number 1 (λ h. omega (arith, above_one e, h))

pub never_going : (e : Refusal) → eqb (line_of e).number 0 ≡ false
never_going e = ne_eqb (line_of e).number 0 (λ h. omega (arith, above_one e, h))

pub ruleset refusals = (literals, never_done, never_going)

-- A step on a conic that is not a plane takes the first crossing. Assumes nothing.
use Prim.Native.Nat.{ℕ}
use mathlib.Core.Path.{◌≡◌, refl}
use lib.Ieee.{Float}
use Rattle.surfaces.specs.Conic.{conic_crossing}
use Rattle.surfaces.specs.Surface.{conic_of, pass_answer, turn_answer}
use Rattle.surfaces.specs.declared.types.Ray.{Ray}
use Rattle.surfaces.specs.declared.surface.Kind.TheVariants.{Conic}
use Rattle.surfaces.specs.declared.surface.Surface.{Surface}
use Rattle.surfaces.proofs.Stops.{at_once}
use Rattle.surfaces.proofs.FirstCrossing.{turn_later, told_by_first}
use Rattle.trace.specs.Leg.{no_leg, boundary_of, leg_finite, leg_at, leg_of}
use Rattle.trace.specs.State.{step_on}
use Rattle.trace.specs.FirstCrossing.{FirstCrossing}

one_pass : (s : Surface) (ray : Ray) (passes : ℕ) (t c k : Float) → s.kind ≡ Conic c k →
    pass_answer s ray passes t ≡ conic_crossing ray (conic_of s c k)
unfolding pass_answer
one_pass s ray passes t c k e = rw e

pub first_crossing : FirstCrossing
unfolding step_on leg_of
first_crossing i count h c k e curved =
    let o = i.optic in
    let b = h.state.beam in
    let s = conic_of o.surface c k in
    let one = one_pass o.surface b.ray h.state.passes h.state.t c k e in
    record {
      ends = rw (one, at_once b.ray s);
      by_first =
          rw one
          (told_by_first b.ray s no_leg leg_finite (λ g. g.t)
          (λ l. turn_answer o.surface b.ray.direction l.point (boundary_of o b.index))
          (leg_at h.state.number b) (λ l v. refl)
          (λ l. turn_later o.surface b.ray.direction l.point (boundary_of o b.index))
          curved);
    }

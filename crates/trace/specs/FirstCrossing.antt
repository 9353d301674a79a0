-- Which crossing a step takes (SCOPE S10): at a conic that is not a plane 6 and 7 are told by the first crossing, and a
-- hit has its t. Refraction's own refusals stand between the normal's and 9. Definitions only.
use Rattle.std.specs.Prelude.{ℕ, ◌+◌, ◌≡◌, false, Float}
use Rattle.numbers.specs.Arithmetic.{◌<₆₄◌, 1e-15}
use Rattle.numbers.specs.Basic.{magnitude}
use Rattle.surfaces.specs.Refusal.{Told}
use Rattle.surfaces.specs.Surface.{conic_of, pass_answer}
use Rattle.surfaces.specs.FirstCrossing.{ByFirst}
use Rattle.surfaces.specs.declared.types.Landing.{Landing}
use Rattle.surfaces.specs.declared.conic.ConicSurface.{ConicSurface}
use Rattle.surfaces.specs.declared.surface.Kind.TheVariants.{Conic}
use Rattle.recipe.specs.Scan.{Item}
use Rattle.trace.specs.Leg.{leg_of}
use Rattle.trace.specs.State.{Held, surface_left, step_on}

-- A step on a conic s, with any state and buffer, whose pass tells x.
pub record StepAtFirst (i : Item) (count : ℕ) (h : Held) (s : ConicSurface) (x : Told Landing) : Type 0 where
  -- it ends the surface: state and record are those of the leg
  pub ends : step_on i count h
      ≡ surface_left h i.next count i.optic x (h.state.passes + 1) (h.state.steps + 1)
  -- and the leg is told by the crossings of the beam
  pub by_first : ByFirst h.state.beam.ray s (λ g. g.t) (leg_of h.state.number i.optic h.state.beam x)

abbrev pub FirstCrossing : Type 0
FirstCrossing =
    (i : Item) (count : ℕ) (h : Held) (c k : Float) →
    i.optic.surface.kind ≡ Conic c k → (magnitude c <₆₄ 1e-15) ≡ false →
    StepAtFirst i count h (conic_of i.optic.surface c k)
    (pass_answer i.optic.surface h.state.beam.ray h.state.passes h.state.t)

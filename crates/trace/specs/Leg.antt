-- A beam's way to a surface and on from it: what a step that ends a surface does, and the record that it leaves.
-- Definitions only.
use Rattle.std.specs.Prelude.{ℕ, List, [], ◌∷◌, Bool, false, ◌&&◌, eqb, pos, Float, if◌then◌else◌}
use Rattle.std.specs.Float.{binary64}
use Rattle.std.specs.Float.Ieee.{of_int}
use Rattle.std.specs.Float.Ieee.Scale.{finite}
use Rattle.numbers.specs.Arithmetic.{◌+₆₄◌, ◌*₆₄◌, 0f, 1f}
use Rattle.surfaces.specs.Types.{zeros, vector_length, all_finite}
use Rattle.surfaces.specs.Refusal.{Told, gives, done, after, checked9}
use Rattle.surfaces.specs.Surface.{turn_answer}
use Rattle.surfaces.specs.declared.types.Landing.{Landing}
use Rattle.surfaces.specs.declared.refusal.Line.{Line}
use Rattle.surfaces.specs.declared.surface.Boundary.{Boundary}
use Rattle.surfaces.specs.declared.surface.Boundary.TheVariants.{Mirror, Media}
use Rattle.surfaces.specs.declared.surface.Leaving.{Leaving}
use Rattle.recipe.specs.declared.record.Optic.{Optic}
use Rattle.trace.specs.declared.leg.Beam.{Beam}
use Rattle.trace.specs.declared.leg.Leg.{Leg}

abbrev pub no_leg : Leg
no_leg = record { t = 0f; point = zeros; normal = zeros; direction = zeros; front = false; path = 0f }

-- a mirror's index is not used
unfoldable pub boundary_of : Optic → Float → Boundary
boundary_of o index = if o.mirror then Mirror else Media index o.index

-- a surface's share of the path (SCOPE C11), by its number, the beam before it and t, which counts lengths of the
-- direction: behind a surface that is a unit vector
unfoldable pub share : ℕ → Beam → Float → Float
share number b t =
    if eqb number 0 then t *₆₄ vector_length b.ray.direction *₆₄ b.index else
    t *₆₄ b.index

-- what 9 covers
unfoldable pub leg_finite : Leg → Bool
leg_finite g =
    finite g.t && all_finite g.point && all_finite g.normal && all_finite g.direction && finite g.path

-- a beam that landed on the surface of a number and went on from there
abbrev pub leg_at : ℕ → Beam → Landing → Leaving → Leg
leg_at number b l v =
    record {
      t = l.t;
      point = l.point;
      normal = v.normal;
      direction = v.direction;
      front = v.front;
      path = b.path +₆₄ share number b l.t;
    }

-- from where the passes on the surface of a number came to: normal, refraction or reflection, path, then 9
unfoldable pub leg_of : ℕ → Optic → Beam → Told Landing → Told Leg
leg_of number o b x =
    checked9 no_leg leg_finite
    (after no_leg x (λ l.
    after no_leg (turn_answer o.surface b.ray.direction l.point (boundary_of o b.index)) (λ v.
    gives (leg_at number b l v))))

-- the next ray leaves the point in the new direction
unfoldable pub beam_after : Optic → Beam → Leg → Beam
beam_after o b g =
    record {
      ray = record { origin = g.point; direction = g.direction };
      index = if o.mirror then b.index else o.index;
      path = g.path;
    }

-- how many numbers a record has
abbrev pub width : ℕ
width = 13

abbrev pub float : ℕ → Float
float n = of_int binary64 (pos n)

-- status, t, point, normal, new direction, front face, steps
unfoldable pub hit_row : Leg → ℕ → List Float
hit_row g steps =
    1f ∷ g.t ∷ g.point.x ∷ g.point.y ∷ g.point.z ∷ g.normal.x ∷ g.normal.y ∷ g.normal.z
    ∷ g.direction.x ∷ g.direction.y ∷ g.direction.z ∷ (if g.front then 1f else 0f) ∷ float steps ∷ []

-- status, for 7 r and the limit, steps
unfoldable pub refusal_row : Line → ℕ → List Float
refusal_row l steps =
    float l.number ∷ l.r ∷ l.limit ∷ 0f ∷ 0f ∷ 0f ∷ 0f ∷ 0f
    ∷ 0f ∷ 0f ∷ 0f ∷ 0f ∷ float steps ∷ []

unfoldable pub row_of : Told Leg → ℕ → List Float
row_of x steps = if done x then hit_row x.value steps else refusal_row x.line steps

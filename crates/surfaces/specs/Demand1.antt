-- Demand 1 for the public functions: on every input an answer has no other number than those listed for the function.
-- Those that refuse nothing are not here; `sphere` and `plane` are `from_radius` and `from_curvature`.
-- Definitions only.
use Rattle.std.specs.Prelude.{ℕ, ◌≡◌, true, List, [], ◌∷◌, Float}
use Rattle.numbers.specs.Arithmetic.{one_of}
use Rattle.surfaces.specs.Refusal.{Told, line_of}
use Rattle.surfaces.specs.Snell.{reflect_answer, refract_answer}
use Rattle.surfaces.specs.Conic.{from_radius_answer, from_curvature_answer, conic_sag_answer, conic_normal_answer}
use Rattle.surfaces.specs.Conic.{conic_meet_answer}
use Rattle.surfaces.specs.Asphere.{new_even_answer, even_sag_answer, even_slope_answer, even_normal_answer}
use Rattle.surfaces.specs.Asphere.{even_paraxial_answer, even_crossing_answer, new_odd_answer, odd_sag_answer}
use Rattle.surfaces.specs.Asphere.{odd_normal_answer, odd_crossing_answer}
use Rattle.surfaces.specs.Biconic.{new_biconic_answer, biconic_sag_answer, biconic_slopes_answer, biconic_normal_answer}
use Rattle.surfaces.specs.Biconic.{biconic_crossing_answer, biconic_paraxial_answer, new_toroid_answer}
use Rattle.surfaces.specs.Biconic.{toroid_sag_answer}
use Rattle.surfaces.specs.Biconic.{toroid_slopes_answer, toroid_normal_answer, toroid_crossing_answer}
use Rattle.surfaces.specs.Surface.{chain, turn_answer}
use Rattle.surfaces.specs.declared.types.Vec3.{Vec3}
use Rattle.surfaces.specs.declared.types.Ray.{Ray}
use Rattle.surfaces.specs.declared.types.Coefficients.{Coefficients}
use Rattle.surfaces.specs.declared.refusal.Refusal.{Refusal}
use Rattle.surfaces.specs.declared.conic.ConicSurface.{ConicSurface}
use Rattle.surfaces.specs.declared.asphere.EvenAsphere.{EvenAsphere}
use Rattle.surfaces.specs.declared.asphere.OddAsphere.{OddAsphere}
use Rattle.surfaces.specs.declared.biconic.BiconicSurface.{BiconicSurface}
use Rattle.surfaces.specs.declared.biconic.ToroidalSurface.{ToroidalSurface}
use Rattle.surfaces.specs.declared.surface.Surface.{Surface}
use Rattle.surfaces.specs.declared.surface.Boundary.{Boundary}

-- an answer has no other number than those of a list
unfoldable pub Only : {A : Type 0} → List ℕ → Told A → Type 0
Only l x = one_of l x.line.number ≡ true

-- The numbers: 1 done, 2 bad parameter, 3 negative semi-diameter of a conic, 4 singular, 5 outside the domain,
-- 6 missed, 7 vignetted, 8 total internal reflection, 9 an answer's number is not finite; 0 a pass that has not ended.
pub record Demand1 : Type 0 where
  -- reflection and refraction: bad arguments are 4
  pub reflect : (i n : Vec3) → Only (1 ∷ 4 ∷ 9 ∷ []) (reflect_answer i n)
  pub snell_refract : (i n : Vec3) (n1 n2 : Float) → Only (1 ∷ 4 ∷ 8 ∷ 9 ∷ []) (refract_answer i n n1 n2)
  -- conic: the constructors give no 9; an argument that is not finite is 4 in sag and normal, 2 in the intersection
  pub from_radius : (radius k semi : Float) → Only (1 ∷ 3 ∷ 4 ∷ []) (from_radius_answer radius k semi)
  pub from_curvature : (c k semi : Float) → Only (1 ∷ 3 ∷ 4 ∷ []) (from_curvature_answer c k semi)
  pub conic_sag : (r c k : Float) → Only (1 ∷ 4 ∷ 5 ∷ 9 ∷ []) (conic_sag_answer r c k)
  pub conic_normal : (p : Vec3) (s : ConicSurface) → Only (1 ∷ 4 ∷ 5 ∷ 9 ∷ []) (conic_normal_answer p s)
  pub intersect_conic : (ray : Ray) (s : ConicSurface) →
      Only (1 ∷ 2 ∷ 3 ∷ 4 ∷ 5 ∷ 6 ∷ 7 ∷ 9 ∷ []) (conic_meet_answer ray s)
  -- even asphere: bad arguments are 2, here and below
  pub even_new : (c k : Float) (a : Coefficients) (semi : Float) → Only (1 ∷ 2 ∷ []) (new_even_answer c k a semi)
  pub even_sag : (s : EvenAsphere) (r : Float) → Only (1 ∷ 2 ∷ 5 ∷ 9 ∷ []) (even_sag_answer s r)
  pub even_radial_derivative : (s : EvenAsphere) (r : Float) → Only (1 ∷ 2 ∷ 4 ∷ 5 ∷ 9 ∷ []) (even_slope_answer s r)
  pub even_normal : (s : EvenAsphere) (x y : Float) → Only (1 ∷ 2 ∷ 4 ∷ 5 ∷ 9 ∷ []) (even_normal_answer s x y)
  pub even_paraxial_curvature : (s : EvenAsphere) → Only (1 ∷ 2 ∷ 9 ∷ []) (even_paraxial_answer s)
  pub even_intersect_ray : (s : EvenAsphere) (ray : Ray) (vertex : Float) →
      Only (1 ∷ 2 ∷ 4 ∷ 6 ∷ 7 ∷ 9 ∷ []) (even_crossing_answer s ray vertex)
  -- odd asphere
  pub odd_new : (c k : Float) (even odd : Coefficients) (semi : Float) →
      Only (1 ∷ 2 ∷ []) (new_odd_answer c k even odd semi)
  pub odd_sag : (s : OddAsphere) (r : Float) → Only (1 ∷ 2 ∷ 5 ∷ 9 ∷ []) (odd_sag_answer s r)
  pub odd_normal : (s : OddAsphere) (x y : Float) → Only (1 ∷ 2 ∷ 5 ∷ 9 ∷ []) (odd_normal_answer s x y)
  pub odd_intersect_ray : (s : OddAsphere) (ray : Ray) (vertex : Float) →
      Only (1 ∷ 2 ∷ 4 ∷ 6 ∷ 7 ∷ 9 ∷ []) (odd_crossing_answer s ray vertex)
  -- biconic: its paraxial curvatures are two of its own numbers, and so are finite
  pub biconic_new : (cx kx cy ky semi : Float) → Only (1 ∷ 2 ∷ []) (new_biconic_answer cx kx cy ky semi)
  pub biconic_sag : (s : BiconicSurface) (x y : Float) → Only (1 ∷ 2 ∷ 5 ∷ 9 ∷ []) (biconic_sag_answer s x y)
  pub biconic_derivatives : (s : BiconicSurface) (x y : Float) →
      Only (1 ∷ 2 ∷ 4 ∷ 5 ∷ 9 ∷ []) (biconic_slopes_answer s x y)
  pub biconic_normal : (s : BiconicSurface) (x y : Float) → Only (1 ∷ 2 ∷ 4 ∷ 5 ∷ 9 ∷ []) (biconic_normal_answer s x y)
  pub biconic_intersect_ray : (s : BiconicSurface) (ray : Ray) (vertex : Float) →
      Only (1 ∷ 2 ∷ 4 ∷ 6 ∷ 7 ∷ 9 ∷ []) (biconic_crossing_answer s ray vertex)
  pub biconic_paraxial_curvatures : (s : BiconicSurface) → Only (1 ∷ 2 ∷ []) (biconic_paraxial_answer s)
  -- toroid: its slopes are refused outside the domain and nowhere else
  pub toroid_new : (rx cy ky semi : Float) → Only (1 ∷ 2 ∷ []) (new_toroid_answer rx cy ky semi)
  pub toroid_sag : (s : ToroidalSurface) (x y : Float) → Only (1 ∷ 2 ∷ 5 ∷ 9 ∷ []) (toroid_sag_answer s x y)
  pub toroid_derivatives : (s : ToroidalSurface) (x y : Float) → Only (1 ∷ 2 ∷ 5 ∷ 9 ∷ []) (toroid_slopes_answer s x y)
  pub toroid_normal : (s : ToroidalSurface) (x y : Float) → Only (1 ∷ 2 ∷ 5 ∷ 9 ∷ []) (toroid_normal_answer s x y)
  pub toroid_intersect_ray : (s : ToroidalSurface) (ray : Ray) (vertex : Float) →
      Only (1 ∷ 2 ∷ 4 ∷ 6 ∷ 7 ∷ 9 ∷ []) (toroid_crossing_answer s ray vertex)
  -- for a trace, inside which there is no 9 yet
  pub chain : (s : Surface) (ray : Ray) (left made : ℕ) (t : Float) →
      Only (0 ∷ 1 ∷ 4 ∷ 6 ∷ 7 ∷ []) (chain s ray left made t).answer
  pub turn : (s : Surface) (i p : Vec3) (b : Boundary) → Only (1 ∷ 2 ∷ 4 ∷ 5 ∷ 8 ∷ []) (turn_answer s i p b)
  pub line_of : (e : Refusal) → one_of (2 ∷ 3 ∷ 4 ∷ 5 ∷ 6 ∷ 7 ∷ 8 ∷ 9 ∷ []) (line_of e).number ≡ true

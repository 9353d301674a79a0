-- Even and odd aspheres: z(r) = c r² / (1 + √(1 - (1 + k) c² r²)) + Σ aᵢ r²ⁱ, and for the odd one + Σ bᵢ r²ⁱ⁻¹.
-- Definitions only.
use Rattle.std.specs.Prelude.{ℕ, suc, Bool, true, false, not, ◌&&◌, ◌||◌, List, [], ◌∷◌, pos, Float, if◌then◌else◌}
use Rattle.std.specs.Float.{binary64}
use Rattle.std.specs.Float.Ieee.{neg, of_int}
use Rattle.std.specs.Float.Ieee.Scale.{finite}
use Rattle.numbers.specs.Arithmetic.{◌+₆₄◌, ◌-₆₄◌, ◌*₆₄◌, ◌/₆₄◌, ◌<₆₄◌, ◌≤₆₄◌, 0f, 1f, 2f, 1e-14, 1e-15}
use Rattle.numbers.specs.Basic.{magnitude, larger}
use Rattle.numbers.specs.Root.{root}
use Rattle.surfaces.specs.Types.{vec, zeros, backwards, distance, all_finite, meridians, no_meridians, terms}
use Rattle.surfaces.specs.Types.{polynomial, coefficients_good}
use Rattle.surfaces.specs.Refusal.{handed_out, accepted, Told, gives, after, no_number, no_direction, no_even, no_odd}
use Rattle.surfaces.specs.Sags.{edge_root}
use Rattle.surfaces.specs.Newton.{newton_answer, Shape}
use Rattle.surfaces.specs.declared.types.Vec3.{Vec3}
use Rattle.surfaces.specs.declared.types.Ray.{Ray}
use Rattle.surfaces.specs.declared.types.Landing.{Landing}
use Rattle.surfaces.specs.declared.types.Meridians.{Meridians}
use Rattle.surfaces.specs.declared.types.Coefficients.{Coefficients}
use Rattle.surfaces.specs.declared.types.Polynomial.{Polynomial}
use Rattle.surfaces.specs.declared.asphere.EvenAsphere.{EvenAsphere}
use Rattle.surfaces.specs.declared.asphere.OddAsphere.{OddAsphere}

-- sum + a · p + b · (p · r2) + .., from the left
unfoldable pub power_sum_from : Float → List Float → Float → Float → Float
power_sum_from sum [] p r2 = sum
power_sum_from sum (a ∷ l) p r2 = power_sum_from (sum +₆₄ a *₆₄ p) l (p *₆₄ r2) r2

-- the coefficients times their powers of r, of which the first is given
abbrev pub power_sum : List Float → Float → Float → Float
power_sum l p r2 = power_sum_from 0f l p r2

-- the same with each term also times its exponent, which for the i-th coefficient is 2 i + the first one
unfoldable pub slope_sum_from : ℕ → Float → List Float → Float → Float → Float → Float
slope_sum_from i sum [] e p r2 = sum
slope_sum_from i sum (a ∷ l) e p r2 =
    slope_sum_from (suc i) (sum +₆₄ (2f *₆₄ of_int binary64 (pos i) +₆₄ e) *₆₄ a *₆₄ p) l e (p *₆₄ r2) r2

abbrev pub slope_sum : List Float → Float → Float → Float → Float
slope_sum l e p r2 = slope_sum_from 0 0f l e p r2

-- the conic base of an asphere, from r²: c r² / (1 + √(1 - (1 + k) c² r²)), and 0 where it is flat
unfoldable pub base_sag : Float → Float → Float → Told Float
base_sag c k r2 =
    if magnitude c <₆₄ 1e-15 then gives 0f else
    after 0f (edge_root (1f -₆₄ (1f +₆₄ k) *₆₄ c *₆₄ c *₆₄ r2)) (λ s.
    gives ((c *₆₄ r2) /₆₄ (1f +₆₄ s)))

-- its slope at r
unfoldable pub base_slope : Float → Float → Float → Told Float
base_slope c k r =
    if magnitude c <₆₄ 1e-15 then gives 0f else
    after 0f (edge_root (1f -₆₄ (1f +₆₄ k) *₆₄ c *₆₄ c *₆₄ (r *₆₄ r))) (λ s.
    if s ≤₆₄ 1e-15 then no_number 4 else
    gives ((c *₆₄ r) /₆₄ s))

-- EvenAsphere::sag
unfoldable pub even_sag : Float → Float → Coefficients → Float → Told Float
even_sag c k a r =
    let r2 = r *₆₄ r in
    if not (finite r) || (r <₆₄ 0f) then no_number 2 else
    after 0f (base_sag c k r2) (λ base.
    gives (base +₆₄ power_sum (terms a) r2 r2))

-- EvenAsphere::radial_derivative
unfoldable pub even_slope : Float → Float → Coefficients → Float → Told Float
even_slope c k a r =
    if not (finite r) || (r <₆₄ 0f) then no_number 2 else
    after 0f (base_slope c k r) (λ base.
    gives (base +₆₄ slope_sum (terms a) 2f r (r *₆₄ r)))

-- a radial slope in x and y, and what it is near the axis
unfoldable pub radial_slopes : Meridians → Float → Float → Float → Float → Meridians
radial_slopes near d x y r = if 1e-14 <₆₄ r then meridians (d *₆₄ (x /₆₄ r)) (d *₆₄ (y /₆₄ r)) else near

-- the slopes of EvenAsphere::intersect_ray
unfoldable pub even_slopes : Float → Float → Coefficients → Float → Float → Float → Told Meridians
even_slopes c k a x y r = after no_meridians (even_slope c k a r) (λ d. gives (radial_slopes no_meridians d x y r))

-- a surface with these slopes: the length of (slopes, -1), and the unit normal towards -z
unfoldable pub length_of : Float → Float → Float
length_of dx dy = root (dx *₆₄ dx +₆₄ dy *₆₄ dy +₆₄ 1f)

unfoldable pub facing_of : Float → Float → Float → Vec3
facing_of dx dy norm = vec (dx /₆₄ norm) (dy /₆₄ norm) (neg 1f /₆₄ norm)

-- the unit normal of slopes, without a test of its own
unfoldable pub normal_of : Told Meridians → Told Vec3
normal_of slopes = after zeros slopes (λ m. gives (facing_of m.x m.y (length_of m.x m.y)))

-- the last test of EvenAsphere::normal, which no other normal has
unfoldable pub even_facing : Float → Float → Told Vec3
even_facing dx dy =
    let norm = length_of dx dy in
    if (norm ≤₆₄ 1e-15) || not (finite norm) then no_direction 4 else
    gives (facing_of dx dy norm)

-- EvenAsphere::normal
unfoldable pub even_normal : Float → Float → Coefficients → Float → Float → Told Vec3
even_normal c k a x y =
    let r = distance x y in
    if r <₆₄ 1e-15 then gives backwards else
    after zeros (even_slope c k a r) (λ d.
    even_facing (d *₆₄ (x /₆₄ r)) (d *₆₄ (y /₆₄ r)))

abbrev pub even_shape : Float → Float → Coefficients → Float → Shape
even_shape c k a semi = record {
  sag = λ r p. even_sag c k a r;
  slopes = λ r p. even_slopes c k a p.x p.y r;
  semi = semi;
  checks_last = false;
  limit = 25;
}

unfoldable pub even_good : EvenAsphere → Bool
even_good s = finite s.curvature && finite s.conic && finite s.semi && coefficients_good s.coefficients

unfoldable pub new_even_answer : Float → Float → Coefficients → Float → Told EvenAsphere
new_even_answer c k a semi =
    let s : EvenAsphere = record { curvature = c; conic = k; semi = semi; coefficients = a } in
    accepted no_even (even_good s) semi s

unfoldable pub even_sag_answer : EvenAsphere → Float → Told Float
even_sag_answer s r =
    handed_out 2 0f finite (finite r && even_good s) (even_sag s.curvature s.conic s.coefficients r)

unfoldable pub even_slope_answer : EvenAsphere → Float → Told Float
even_slope_answer s r =
    handed_out 2 0f finite (finite r && even_good s) (even_slope s.curvature s.conic s.coefficients r)

unfoldable pub even_normal_answer : EvenAsphere → Float → Float → Told Vec3
even_normal_answer s x y =
    handed_out 2 zeros all_finite (finite x && finite y && even_good s)
    (even_normal s.curvature s.conic s.coefficients x y)

-- the first coefficient, 0 where there is none
abbrev pub first_or0 : List Float → Float
first_or0 [] = 0f
first_or0 (a ∷ l) = a

unfoldable pub even_paraxial_answer : EvenAsphere → Told Float
even_paraxial_answer s =
    handed_out 2 0f finite (even_good s) (gives (s.curvature +₆₄ 2f *₆₄ first_or0 (terms s.coefficients)))

unfoldable pub even_crossing_answer : EvenAsphere → Ray → Float → Told Landing
even_crossing_answer s ray vertex =
    newton_answer (even_good s) (even_shape s.curvature s.conic s.coefficients s.semi) ray vertex

-- OddAsphere::sag
unfoldable pub odd_sag : Float → Float → Polynomial → Float → Told Float
odd_sag c k a r =
    let r2 = r *₆₄ r in
    if not (finite r) || (r <₆₄ 0f) then no_number 2 else
    after 0f (base_sag c k r2) (λ base.
    gives (base +₆₄ power_sum (terms a.even) r2 r2 +₆₄ power_sum (terms a.odd) r r2))

-- the base's slope in OddAsphere::normal, whose root is at least 1e-15
unfoldable pub odd_base_slope : Float → Float → Float → Told Float
odd_base_slope c k r =
    if magnitude c <₆₄ 1e-15 then gives 0f else
    after 0f (edge_root (1f -₆₄ (1f +₆₄ k) *₆₄ c *₆₄ c *₆₄ (r *₆₄ r))) (λ s.
    gives ((c *₆₄ r) /₆₄ larger s 1e-15))

-- the slope in OddAsphere::normal
unfoldable pub odd_slope : Float → Float → Polynomial → Float → Told Float
odd_slope c k a r =
    let r2 = r *₆₄ r in
    after 0f (odd_base_slope c k r) (λ base.
    gives (base +₆₄ slope_sum (terms a.even) 2f r r2 +₆₄ slope_sum (terms a.odd) 1f 1f r2))

-- where OddAsphere::normal is the axis
unfoldable pub odd_on_axis : Polynomial → Float → Bool
odd_on_axis a r = (r <₆₄ 1e-15) && (magnitude (first_or0 (terms a.odd)) <₆₄ 1e-14)

-- the slopes elsewhere; near the axis the slope counts as along x
unfoldable pub odd_slopes_at : Float → Float → Polynomial → Float → Float → Float → Told Meridians
odd_slopes_at c k a x y r =
    after no_meridians (odd_slope c k a r) (λ d. gives (radial_slopes (meridians d 0f) d x y r))

-- OddAsphere::normal
unfoldable pub odd_normal : Float → Float → Polynomial → Float → Float → Told Vec3
odd_normal c k a x y =
    let r = distance x y in
    if odd_on_axis a r then gives backwards else
    normal_of (odd_slopes_at c k a x y r)

-- the slopes of a pass
unfoldable pub odd_slopes : Float → Float → Polynomial → Float → Float → Float → Told Meridians
odd_slopes c k a x y r =
    if odd_on_axis a r then gives no_meridians else
    odd_slopes_at c k a x y r

abbrev pub odd_shape : Float → Float → Polynomial → Float → Shape
odd_shape c k a semi = record {
  sag = λ r p. odd_sag c k a r;
  slopes = λ r p. odd_slopes c k a p.x p.y r;
  semi = semi;
  checks_last = true;
  limit = 25;
}

unfoldable pub odd_good : OddAsphere → Bool
odd_good s =
    finite s.curvature && finite s.conic && finite s.semi && coefficients_good s.even &&
    coefficients_good s.odd

unfoldable pub new_odd_answer : Float → Float → Coefficients → Coefficients → Float → Told OddAsphere
new_odd_answer c k even odd semi =
    let s : OddAsphere = record { curvature = c; conic = k; semi = semi; even = even; odd = odd } in
    accepted no_odd (odd_good s) semi s

abbrev pub powers_of : OddAsphere → Polynomial
powers_of s = polynomial s.even s.odd

unfoldable pub odd_sag_answer : OddAsphere → Float → Told Float
odd_sag_answer s r = handed_out 2 0f finite (finite r && odd_good s) (odd_sag s.curvature s.conic (powers_of s) r)

unfoldable pub odd_normal_answer : OddAsphere → Float → Float → Told Vec3
odd_normal_answer s x y =
    handed_out 2 zeros all_finite (finite x && finite y && odd_good s)
    (odd_normal s.curvature s.conic (powers_of s) x y)

-- the Rust has none; it is the biconic's, over the sag and the slopes above
unfoldable pub odd_crossing_answer : OddAsphere → Ray → Float → Told Landing
odd_crossing_answer s ray vertex =
    newton_answer (odd_good s) (odd_shape s.curvature s.conic (powers_of s) s.semi) ray vertex

-- Biconic and toroidal surfaces. Definitions only.
use Rattle.std.specs.Prelude.{Bool, true, not, ◌&&◌, Float, if◌then◌else◌}
use Rattle.std.specs.Float.Ieee.Scale.{finite}
use Rattle.numbers.specs.Arithmetic.{◌+₆₄◌, ◌-₆₄◌, ◌*₆₄◌, ◌/₆₄◌, ◌<₆₄◌, ◌≤₆₄◌, 0f, 1f, 2f, 1e-14, 1e-15}
use Rattle.numbers.specs.Basic.{magnitude, larger}
use Rattle.numbers.specs.Root.{root}
use Rattle.surfaces.specs.Types.{zeros, all_finite, meridians, no_meridians, both_finite}
use Rattle.surfaces.specs.Refusal.{handed_out, accepted, Told, gives, after, no_number, no_pair, no_biconic, no_toroid}
use Rattle.surfaces.specs.Conic.{sign_of}
use Rattle.surfaces.specs.Newton.{newton_answer, Shape}
use Rattle.surfaces.specs.Sags.{edge_root}
use Rattle.surfaces.specs.Asphere.{normal_of}
use Rattle.surfaces.specs.declared.types.Vec3.{Vec3}
use Rattle.surfaces.specs.declared.types.Ray.{Ray}
use Rattle.surfaces.specs.declared.types.Landing.{Landing}
use Rattle.surfaces.specs.declared.types.Meridians.{Meridians}
use Rattle.surfaces.specs.declared.biconic.BiconicSurface.{BiconicSurface}
use Rattle.surfaces.specs.declared.biconic.ToroidalSurface.{ToroidalSurface}

unfoldable pub numerator_of : Float → Float → Float → Float → Float
numerator_of cx cy x y = cx *₆₄ x *₆₄ x +₆₄ cy *₆₄ y *₆₄ y

unfoldable pub biconic_radicand : Float → Float → Float → Float → Float → Float → Float
biconic_radicand cx kx cy ky x y =
    1f -₆₄ (1f +₆₄ kx) *₆₄ cx *₆₄ cx *₆₄ x *₆₄ x -₆₄ (1f +₆₄ ky) *₆₄ cy *₆₄ cy *₆₄ y *₆₄ y

-- BiconicSurface::sag
unfoldable pub biconic_sag : Float → Float → Float → Float → Float → Float → Told Float
biconic_sag cx kx cy ky x y =
    if not (finite x && finite y) then no_number 2 else
    after 0f (edge_root (biconic_radicand cx kx cy ky x y)) (λ s.
    gives (numerator_of cx cy x y /₆₄ (1f +₆₄ s)))

unfoldable pub on_axis : Float → Float → Bool
on_axis x y = (magnitude x <₆₄ 1e-15) && (magnitude y <₆₄ 1e-15)

-- the slope along one meridian, of curvature c and conic constant k
unfoldable pub meridian_slope : Float → Float → Float → Float → Float → Float
meridian_slope c k x num s =
    let s1 = 1f +₆₄ s in
    (2f *₆₄ c *₆₄ x) /₆₄ s1 +₆₄ (num *₆₄ (1f +₆₄ k) *₆₄ c *₆₄ c *₆₄ x) /₆₄ (s *₆₄ (s1 *₆₄ s1))

-- the slopes off the axis, given the sag's numerator and root
unfoldable pub biconic_slopes_at : Float → Float → Float → Float → Float → Float → Float → Float → Told Meridians
biconic_slopes_at cx kx cy ky x y num s =
    if s ≤₆₄ 1e-14 then no_pair 4 else
    gives (meridians (meridian_slope cx kx x num s) (meridian_slope cy ky y num s))

-- BiconicSurface::derivatives
unfoldable pub biconic_slopes : Float → Float → Float → Float → Float → Float → Told Meridians
biconic_slopes cx kx cy ky x y =
    if on_axis x y then gives no_meridians else
    after no_meridians (edge_root (biconic_radicand cx kx cy ky x y))
    (biconic_slopes_at cx kx cy ky x y (numerator_of cx cy x y))

-- BiconicSurface::normal
unfoldable pub biconic_normal : Float → Float → Float → Float → Float → Float → Told Vec3
biconic_normal cx kx cy ky x y = normal_of (biconic_slopes cx kx cy ky x y)

abbrev pub biconic_shape : Float → Float → Float → Float → Float → Shape
biconic_shape cx kx cy ky semi = record {
  sag = λ r p. biconic_sag cx kx cy ky p.x p.y;
  slopes = λ r p. biconic_slopes cx kx cy ky p.x p.y;
  semi = semi;
  checks_last = true;
  limit = 35;
}

unfoldable pub biconic_good : BiconicSurface → Bool
biconic_good s = finite s.cx && finite s.kx && finite s.cy && finite s.ky && finite s.semi

unfoldable pub new_biconic_answer : Float → Float → Float → Float → Float → Told BiconicSurface
new_biconic_answer cx kx cy ky semi =
    let s : BiconicSurface = record { cx = cx; kx = kx; cy = cy; ky = ky; semi = semi } in
    accepted no_biconic (biconic_good s) semi s

unfoldable pub biconic_sag_answer : BiconicSurface → Float → Float → Told Float
biconic_sag_answer s x y =
    handed_out 2 0f finite (finite x && finite y && biconic_good s) (biconic_sag s.cx s.kx s.cy s.ky x y)

unfoldable pub biconic_slopes_answer : BiconicSurface → Float → Float → Told Meridians
biconic_slopes_answer s x y =
    handed_out 2 no_meridians both_finite (finite x && finite y && biconic_good s)
    (biconic_slopes s.cx s.kx s.cy s.ky x y)

unfoldable pub biconic_normal_answer : BiconicSurface → Float → Float → Told Vec3
biconic_normal_answer s x y =
    handed_out 2 zeros all_finite (finite x && finite y && biconic_good s)
    (biconic_normal s.cx s.kx s.cy s.ky x y)

unfoldable pub biconic_crossing_answer : BiconicSurface → Ray → Float → Told Landing
biconic_crossing_answer s ray vertex =
    newton_answer (biconic_good s) (biconic_shape s.cx s.kx s.cy s.ky s.semi) ray vertex

unfoldable pub biconic_paraxial_answer : BiconicSurface → Told Meridians
biconic_paraxial_answer s = handed_out 2 no_meridians both_finite (biconic_good s) (gives (meridians s.cx s.cy))

-- the toroid's base curve in the y-z plane: its radicand, and its sag from the root s
unfoldable pub base_curve_radicand : Float → Float → Float → Float
base_curve_radicand cy ky y = 1f -₆₄ (1f +₆₄ ky) *₆₄ cy *₆₄ cy *₆₄ (y *₆₄ y)

unfoldable pub base_curve_sag : Float → Float → Float → Float
base_curve_sag cy y s = (cy *₆₄ (y *₆₄ y)) /₆₄ (1f +₆₄ s)

-- the circle rolled about it, whose radius at y is `term`
unfoldable pub circle_sag : Float → Float → Float → Told Float
circle_sag rx x term =
    after 0f (edge_root (term *₆₄ term -₆₄ x *₆₄ x)) (λ s.
    gives (rx -₆₄ sign_of rx *₆₄ s))

-- ToroidalSurface::sag, which has no test of x and y
unfoldable pub toroid_sag : Float → Float → Float → Float → Float → Told Float
toroid_sag rx cy ky x y =
    after 0f (edge_root (base_curve_radicand cy ky y)) (λ b.
    circle_sag rx x (rx -₆₄ base_curve_sag cy y b))

-- the base curve's slope: its radicand groups otherwise than the sag's
unfoldable pub slope_radicand : Float → Float → Float → Float
slope_radicand cy ky y = larger (1f -₆₄ (1f +₆₄ ky) *₆₄ cy *₆₄ cy *₆₄ y *₆₄ y) 0f

unfoldable pub base_curve_slope : Float → Float → Float → Float
base_curve_slope cy y s = if 1e-14 <₆₄ s then (cy *₆₄ y) /₆₄ s else 0f

-- the slopes where the circle has the radius `term` and the root s, and the base curve the slope d
unfoldable pub circle_slopes_at : Float → Float → Float → Float → Float → Meridians
circle_slopes_at rx x term s d = meridians (sign_of rx *₆₄ x /₆₄ s) (sign_of rx *₆₄ (term /₆₄ s) *₆₄ d)

unfoldable pub circle_slopes : Float → Float → Float → Float → Float → Float → Told Meridians
circle_slopes rx cy ky x y term =
    let radicand = term *₆₄ term -₆₄ x *₆₄ x in
    if radicand ≤₆₄ 1e-14 then no_pair 5 else
    gives (circle_slopes_at rx x term (root radicand) (base_curve_slope cy y (root (slope_radicand cy ky y))))

-- ToroidalSurface::derivatives
unfoldable pub toroid_slopes : Float → Float → Float → Float → Float → Told Meridians
toroid_slopes rx cy ky x y =
    after no_meridians (edge_root (base_curve_radicand cy ky y)) (λ b.
    circle_slopes rx cy ky x y (rx -₆₄ base_curve_sag cy y b))

-- ToroidalSurface::normal
unfoldable pub toroid_normal : Float → Float → Float → Float → Float → Told Vec3
toroid_normal rx cy ky x y = normal_of (toroid_slopes rx cy ky x y)

abbrev pub toroid_shape : Float → Float → Float → Float → Shape
toroid_shape rx cy ky semi = record {
  sag = λ r p. toroid_sag rx cy ky p.x p.y;
  slopes = λ r p. toroid_slopes rx cy ky p.x p.y;
  semi = semi;
  checks_last = true;
  limit = 35;
}

unfoldable pub toroid_good : ToroidalSurface → Bool
toroid_good s = finite s.rx && finite s.cy && finite s.ky && finite s.semi

unfoldable pub new_toroid_answer : Float → Float → Float → Float → Told ToroidalSurface
new_toroid_answer rx cy ky semi =
    let s : ToroidalSurface = record { rx = rx; cy = cy; ky = ky; semi = semi } in
    accepted no_toroid (toroid_good s) semi s

unfoldable pub toroid_sag_answer : ToroidalSurface → Float → Float → Told Float
toroid_sag_answer s x y =
    handed_out 2 0f finite (finite x && finite y && toroid_good s) (toroid_sag s.rx s.cy s.ky x y)

unfoldable pub toroid_slopes_answer : ToroidalSurface → Float → Float → Told Meridians
toroid_slopes_answer s x y =
    handed_out 2 no_meridians both_finite (finite x && finite y && toroid_good s) (toroid_slopes s.rx s.cy s.ky x y)

unfoldable pub toroid_normal_answer : ToroidalSurface → Float → Float → Told Vec3
toroid_normal_answer s x y =
    handed_out 2 zeros all_finite (finite x && finite y && toroid_good s) (toroid_normal s.rx s.cy s.ky x y)

unfoldable pub toroid_crossing_answer : ToroidalSurface → Ray → Float → Told Landing
toroid_crossing_answer s ray vertex =
    newton_answer (toroid_good s) (toroid_shape s.rx s.cy s.ky s.semi) ray vertex

-- What the parts of the code say to each other; no promise of the crate cites it. A law ties each computed one to the
-- rule: `proofs/Again`, `Depths`, `Shared`, `Sheet` and `Ways` have them. Definitions only.
use Rattle.std.specs.Prelude.{◌≡◌, Bool, true, false, not, ◌&&◌, ◌||◌, eqb, Float, if◌then◌else◌}
use Rattle.std.specs.Prelude.{Result, Ok, Err}
use Rattle.std.specs.Float.{binary64}
use Rattle.std.specs.Float.Ieee.{to_bits}
use Rattle.std.specs.Float.Ieee.Scale.{finite}
use Rattle.numbers.specs.Arithmetic.{◌+₆₄◌, ◌-₆₄◌, ◌*₆₄◌, ◌/₆₄◌, ◌<₆₄◌, ◌≤₆₄◌, 0f, 1f, 2f, 1e-14, 1e-15, 1e-30}
use Rattle.numbers.specs.Basic.{magnitude, larger}
use Rattle.numbers.specs.Root.{root}
use Rattle.surfaces.specs.Types.{zeros, squared_length, over_of, all_finite, meridians, no_meridians, terms}
use Rattle.surfaces.specs.Refusal.{Told, plain, gives, refused, after, line_of, no_number, no_pair}
use Rattle.surfaces.specs.Conic.{Quadratic, conic_edge, sheet_tolerance, sign_of}
use Rattle.surfaces.specs.Sags.{edge_root}
use Rattle.surfaces.specs.Newton.{Shape}
use Rattle.surfaces.specs.Asphere.{power_sum, slope_sum, radial_slopes, even_shape, odd_on_axis, odd_shape}
use Rattle.surfaces.specs.Biconic.{numerator_of, biconic_radicand, on_axis, biconic_slopes_at, biconic_shape}
use Rattle.surfaces.specs.Biconic.{base_curve_radicand, base_curve_sag, slope_radicand, base_curve_slope}
use Rattle.surfaces.specs.Biconic.{circle_slopes_at}
use Rattle.surfaces.specs.Biconic.{toroid_shape}
use Rattle.surfaces.specs.Surface.{Way, whole, passes, conic_of}
use Rattle.surfaces.specs.declared.types.Vec3.{Vec3}
use Rattle.surfaces.specs.declared.types.Meridians.{Meridians}
use Rattle.surfaces.specs.declared.types.Coefficients.{Coefficients}
use Rattle.surfaces.specs.declared.types.Polynomial.{Polynomial}
use Rattle.surfaces.specs.declared.refusal.Refusal.{Refusal}
use Rattle.surfaces.specs.declared.refusal.Refusal.TheVariants.{InvalidParameter, GeometryOutsideAperture}
use Rattle.surfaces.specs.declared.conic.Quadratic.{Quadratic as Computed}
use Rattle.surfaces.specs.declared.sags.Depth.{Depth}
use Rattle.surfaces.specs.declared.sags.Beyond.{Beyond}
use Rattle.surfaces.specs.declared.sags.Beyond.TheVariants.{Outside, Invalid}
use Rattle.surfaces.specs.declared.newton.Approach.{Approach}
use Rattle.surfaces.specs.declared.newton.Profile.{Profile}
use Rattle.surfaces.specs.declared.newton.Profile.TheVariants as profile
use Rattle.surfaces.specs.declared.surface.Kind.{Kind}
use Rattle.surfaces.specs.declared.surface.Kind.TheVariants.{Conic, Asphere, Biconic, Toroid}
use Rattle.surfaces.specs.declared.surface.Family.{Family}
use Rattle.surfaces.specs.declared.surface.Family.TheVariants as family
use Rattle.surfaces.specs.declared.surface.Surface.{Surface}

-- waits: two numbers above 0 with one pattern
unfoldable pub same_above0 : Float → Float → Bool
same_above0 x y = if (0f <₆₄ x) && (0f <₆₄ y) then eqb (to_bits binary64 x) (to_bits binary64 y) else false

-- the root of x, given that of y, which is the same where x is y
unfoldable pub root_again : Float → Float → Float → Float
root_again x y s = if same_above0 x y then s else root x

-- What a test without roots shows, for the factor b: the sag at r is by the formula, and z is within the tolerance of
-- it.
pub record SagNear (z c b r : Float) : Type 0 where
  pub curved : finite c ≡ true
  pub placed : finite r ≡ true
  pub beside : (magnitude r <₆₄ 1e-15) ≡ false
  pub inside : (1f -₆₄ b *₆₄ (r *₆₄ r) <₆₄ conic_edge) ≡ false
  pub close :
      (magnitude (z -₆₄ (c *₆₄ (r *₆₄ r)) /₆₄ (1f +₆₄ root (1f -₆₄ b *₆₄ (r *₆₄ r)))) <₆₄ sheet_tolerance) ≡ true

-- conic: the quadratic's coefficients
abbrev pub told_quadratic : Computed → Quadratic
told_quadratic e = record { a = e.a; b = e.b; c = e.c }

-- snell: the unit vectors of two directions, of which neither may be about 0
unfoldable pub units_of : Vec3 → Vec3 → Told (Vec3 × Vec3)
units_of i n =
    let none = refused (zeros, zeros) (plain 4) in
    if not (all_finite i && all_finite n) then none else
    if (squared_length i <₆₄ 1e-30) || (squared_length n <₆₄ 1e-30) then none else
    gives (over_of i (root (squared_length i)), over_of n (root (squared_length n)))

-- sags: why there is none
abbrev pub beyond_refusal : Beyond → Refusal
beyond_refusal Outside = GeometryOutsideAperture
beyond_refusal Invalid = InvalidParameter

abbrev pub told_within : {A : Type 0} → A → Result A Beyond → Told A
told_within blank (Ok a) = gives a
told_within blank (Err b) = refused blank (line_of (beyond_refusal b))

-- the conic base of an asphere from its root, which is 1 where the base is flat
unfoldable pub base_root : Float → Float → Float → Told Float
base_root c k r2 =
    if magnitude c <₆₄ 1e-15 then gives 1f else
    edge_root (1f -₆₄ (1f +₆₄ k) *₆₄ c *₆₄ c *₆₄ r2)

unfoldable pub base_sag_from : Float → Float → Float → Float
base_sag_from c r2 s = if magnitude c <₆₄ 1e-15 then 0f else (c *₆₄ r2) /₆₄ (1f +₆₄ s)

unfoldable pub base_slope_from : Float → Float → Float → Told Float
base_slope_from c r s =
    if magnitude c <₆₄ 1e-15 then gives 0f else
    if s ≤₆₄ 1e-15 then no_number 4 else
    gives ((c *₆₄ r) /₆₄ s)

-- a sag with what the slopes at the same point need of it
abbrev pub depths : Float → Float → Float → Float → Depth
depths z s p b = record { sag = z; root = s; part = p; base = b }

abbrev pub no_depth : Depth
no_depth = depths 0f 0f 0f 0f

abbrev pub sag_of : Told Depth → Told Float
sag_of d = record { line = d.line; value = d.value.sag }

unfoldable pub even_depth : Float → Float → Coefficients → Float → Told Depth
even_depth c k a r =
    let r2 = r *₆₄ r in
    if not (finite r) || (r <₆₄ 0f) then refused no_depth (plain 2) else
    after no_depth (base_root c k r2) (λ s.
    gives (depths (base_sag_from c r2 s +₆₄ power_sum (terms a) r2 r2) s r 0f))

unfoldable pub even_slope_from : Float → Coefficients → Float → Float → Told Float
even_slope_from c a r s =
    after 0f (base_slope_from c r s) (λ base.
    gives (base +₆₄ slope_sum (terms a) 2f r (r *₆₄ r)))

unfoldable pub even_slopes_from : Float → Coefficients → Float → Float → Float → Float → Told Meridians
even_slopes_from c a x y r s =
    after no_meridians (even_slope_from c a r s) (λ d. gives (radial_slopes no_meridians d x y r))

unfoldable pub odd_depth : Float → Float → Polynomial → Float → Told Depth
odd_depth c k a r =
    let r2 = r *₆₄ r in
    if not (finite r) || (r <₆₄ 0f) then refused no_depth (plain 2) else
    after no_depth (base_root c k r2) (λ s.
    gives (depths
    (base_sag_from c r2 s +₆₄ power_sum (terms a.even) r2 r2 +₆₄ power_sum (terms a.odd) r r2) s r 0f))

unfoldable pub odd_base_slope_from : Float → Float → Float → Float
odd_base_slope_from c r s = if magnitude c <₆₄ 1e-15 then 0f else (c *₆₄ r) /₆₄ larger s 1e-15

unfoldable pub odd_slope_from : Float → Polynomial → Float → Float → Float
odd_slope_from c a r s =
    let r2 = r *₆₄ r in
    odd_base_slope_from c r s +₆₄ slope_sum (terms a.even) 2f r r2 +₆₄ slope_sum (terms a.odd) 1f 1f r2

unfoldable pub odd_slopes_from : Float → Polynomial → Float → Float → Float → Float → Meridians
odd_slopes_from c a x y r s =
    let d = odd_slope_from c a r s in
    if odd_on_axis a r then no_meridians else radial_slopes (meridians d 0f) d x y r

unfoldable pub biconic_depth : Float → Float → Float → Float → Float → Float → Told Depth
biconic_depth cx kx cy ky x y =
    let num = numerator_of cx cy x y in
    if not (finite x && finite y) then refused no_depth (plain 2) else
    after no_depth (edge_root (biconic_radicand cx kx cy ky x y)) (λ s.
    gives (depths (num /₆₄ (1f +₆₄ s)) s num 0f))

unfoldable pub biconic_slopes_from :
    Float → Float → Float → Float → Float → Float → Float → Float → Told Meridians
biconic_slopes_from cx kx cy ky x y num s =
    if on_axis x y then gives no_meridians else
    biconic_slopes_at cx kx cy ky x y num s

unfoldable pub circle_depth : Float → Float → Float → Float → Told Depth
circle_depth rx x term base =
    after no_depth (edge_root (term *₆₄ term -₆₄ x *₆₄ x)) (λ s.
    gives (depths (rx -₆₄ sign_of rx *₆₄ s) s term base))

unfoldable pub toroid_depth : Float → Float → Float → Float → Float → Told Depth
toroid_depth rx cy ky x y =
    after no_depth (edge_root (base_curve_radicand cy ky y)) (λ b.
    circle_depth rx x (rx -₆₄ base_curve_sag cy y b) b)

unfoldable pub toroid_slopes_from : Float → Float → Float → Float → Float → Float → Float → Float → Told Meridians
toroid_slopes_from rx cy ky x y term s b =
    let radicand = term *₆₄ term -₆₄ x *₆₄ x in
    let root = root_again radicand (larger radicand 0f) s in
    let base = root_again (slope_radicand cy ky y) (larger (base_curve_radicand cy ky y) 0f) b in
    if radicand ≤₆₄ 1e-14 then no_pair 5 else
    gives (circle_slopes_at rx x term root (base_curve_slope cy y base))

-- newton: what a profile brings, and its sag and slopes at a point whose distance from the axis is r
abbrev pub shape_of : Profile → Polynomial → Float → Shape
shape_of (profile.Asphere s false) a semi = even_shape s.c s.k a.even semi
shape_of (profile.Asphere s true) a semi = odd_shape s.c s.k a semi
shape_of (profile.Biconic b) a semi = biconic_shape b.x.c b.x.k b.y.c b.y.k semi
shape_of (profile.Toroid t) a semi = toroid_shape t.rx t.base.c t.base.k semi

abbrev pub shape_met : Approach → Shape
shape_met w = shape_of w.profile w.polynomial w.semi

unfoldable pub depth_of : Profile → Polynomial → Float → Vec3 → Told Depth
depth_of (profile.Asphere s false) a r p = even_depth s.c s.k a.even r
depth_of (profile.Asphere s true) a r p = odd_depth s.c s.k a r
depth_of (profile.Biconic b) a r p = biconic_depth b.x.c b.x.k b.y.c b.y.k p.x p.y
depth_of (profile.Toroid t) a r p = toroid_depth t.rx t.base.c t.base.k p.x p.y

unfoldable pub slopes_from : Profile → Polynomial → Vec3 → Depth → Told Meridians
slopes_from (profile.Asphere s false) a p d = even_slopes_from s.c a.even p.x p.y d.part d.root
slopes_from (profile.Asphere s true) a p d = gives (odd_slopes_from s.c a p.x p.y d.part d.root)
slopes_from (profile.Biconic b) a p d = biconic_slopes_from b.x.c b.x.k b.y.c b.y.k p.x p.y d.part d.root
slopes_from (profile.Toroid t) a p d = toroid_slopes_from t.rx t.base.c t.base.k p.x p.y d.part d.root d.base

-- surface: a conic, or a profile
abbrev pub family_of : Kind → Family
family_of (Conic c k) = family.Conic (record { c = c; k = k })
family_of (Asphere c k odd) = family.Newton (profile.Asphere (record { c = c; k = k }) odd)
family_of (Biconic cx kx cy ky) =
    family.Newton (profile.Biconic (record { x = record { c = cx; k = kx }; y = record { c = cy; k = ky } }))
family_of (Toroid rx cy ky) = family.Newton (profile.Toroid (record { rx = rx; base = record { c = cy; k = ky } }))

abbrev pub way_as : Family → Surface → Way
way_as (family.Conic b) s = whole (conic_of s b.c b.k)
way_as (family.Newton q) s = passes (shape_of q s.polynomial s.semi)

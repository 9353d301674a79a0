-- Conic surfaces: constructors, radius, sag, normal, and where a ray meets one. Definitions only.
use Rattle.std.specs.Prelude.{Bool, not, ◌&&◌, ◌||◌, List, [], ◌∷◌, Float, if◌then◌else◌}
use Rattle.std.specs.Float.Ieee.{neg, is_nan}
use Rattle.std.specs.Float.Ieee.Scale.{finite}
use Rattle.numbers.specs.Arithmetic.{◌+₆₄◌, ◌-₆₄◌, ◌*₆₄◌, ◌/₆₄◌, ◌<₆₄◌, ◌≤₆₄◌, 0f, ½, 1f, 2f, 4f, 1e-4}
use Rattle.numbers.specs.Arithmetic.{1e-7, 1e-15, 1e-30}
use Rattle.numbers.specs.Basic.{magnitude, larger, infinite}
use Rattle.numbers.specs.Root.{root}
use Rattle.surfaces.specs.Types.{vec, zeros, backwards, dot_of, squared_length, over_of, distance, point_at}
use Rattle.surfaces.specs.Types.{all_finite, ray_finite, landing, no_landing, no_hit, hit_finite}
use Rattle.surfaces.specs.Refusal.{handed_out, Told, plain, vignetted, gives, refused, done, after, checked9}
use Rattle.surfaces.specs.Refusal.{no_number, no_direction, no_crossing, no_conic}
use Rattle.surfaces.specs.declared.types.Vec3.{Vec3}
use Rattle.surfaces.specs.declared.types.Ray.{Ray}
use Rattle.surfaces.specs.declared.types.Landing.{Landing}
use Rattle.surfaces.specs.declared.types.HitRecord.{HitRecord}
use Rattle.surfaces.specs.declared.conic.ConicSurface.{ConicSurface}

abbrev pub conic_surface : Float → Float → Float → Float → ConicSurface
conic_surface v c k semi = record { vertex = v; curvature = c; conic = k; semi = semi }

-- the curvature of a radius: none of an infinite one
unfoldable pub curvature_of : Float → Float
curvature_of radius = if infinite radius then 0f else 1f /₆₄ radius

unfoldable pub from_radius_answer : Float → Float → Float → Told ConicSurface
from_radius_answer radius k semi =
    if is_nan radius || is_nan k || is_nan semi then refused no_conic (plain 4) else
    if semi <₆₄ 0f then refused no_conic (plain 3) else
    if magnitude radius <₆₄ 1e-15 then refused no_conic (plain 4) else
    gives (conic_surface 0f (curvature_of radius) k semi)

unfoldable pub from_curvature_answer : Float → Float → Float → Told ConicSurface
from_curvature_answer c k semi =
    if is_nan c || is_nan k || is_nan semi then refused no_conic (plain 4) else
    if semi <₆₄ 0f then refused no_conic (plain 3) else
    gives (conic_surface 0f c k semi)

unfoldable pub with_vertex : ConicSurface → Float → ConicSurface
with_vertex s z = conic_surface z s.curvature s.conic s.semi

-- the radius of a curvature, infinite for a plane
unfoldable pub radius_of : Float → Float
radius_of c = if magnitude c <₆₄ 1e-15 then 1f /₆₄ 0f else 1f /₆₄ c

-- the factor of r² in a conic's radicand
abbrev pub conic_factor : Float → Float → Float
conic_factor c k = (1f +₆₄ k) *₆₄ c *₆₄ c

-- the least radicand that the conic's sag takes
abbrev pub conic_edge : Float
conic_edge = 0f

-- the Rust's conic_sag
unfoldable pub conic_sag : Float → Float → Float → Told Float
conic_sag r c k =
    let r_sq = r *₆₄ r in
    let radicand = 1f -₆₄ conic_factor c k *₆₄ r_sq in
    if not (finite r && finite c && finite k) then no_number 4 else
    if (magnitude c <₆₄ 1e-15) || (magnitude r <₆₄ 1e-15) then gives 0f else
    if radicand <₆₄ conic_edge then no_number 5 else
    gives ((c *₆₄ r_sq) /₆₄ (1f +₆₄ root radicand))

unfoldable pub conic_sag_answer : Float → Float → Float → Told Float
conic_sag_answer r c k = checked9 0f finite (conic_sag r c k)

-- the normal, without the test of the arguments
unfoldable pub gradient_normal : Vec3 → ConicSurface → Told Vec3
gradient_normal p s =
    let c = s.curvature in
    let k = s.conic in
    let radicand = 1f -₆₄ (1f +₆₄ k) *₆₄ c *₆₄ c *₆₄ (p.x *₆₄ p.x +₆₄ p.y *₆₄ p.y) in
    let g = vec (c *₆₄ p.x) (c *₆₄ p.y) ((1f +₆₄ k) *₆₄ c *₆₄ (p.z -₆₄ s.vertex) -₆₄ 1f) in
    let g_sq = squared_length g in
    if radicand <₆₄ 0f then no_direction 5 else
    if (g_sq <₆₄ 1e-30) || not (finite g_sq) then no_direction 4 else
    gives (over_of g (root g_sq))

-- the Rust's conic_normal
unfoldable pub conic_normal : Vec3 → ConicSurface → Told Vec3
conic_normal p s =
    if not (all_finite p && finite s.curvature && finite s.conic && finite s.vertex) then no_direction 4 else
    gradient_normal p s

unfoldable pub conic_finite : ConicSurface → Bool
conic_finite s = finite s.vertex && finite s.curvature && finite s.conic && finite s.semi

unfoldable pub conic_normal_answer : Vec3 → ConicSurface → Told Vec3
conic_normal_answer p s = handed_out 4 zeros all_finite (all_finite p && conic_finite s) (conic_normal p s)

-- a landing at t, unless r is beyond the semi-diameter
unfoldable pub landed_within : Float → Vec3 → Float → Float → Told Landing
landed_within t p r semi = if semi <₆₄ r then refused no_landing (vignetted r semi) else gives (landing t p)

-- a ray along the planes that lie across the axis
abbrev pub parallel : Ray → Bool
parallel ray = magnitude ray.direction.z <₆₄ 1e-15

unfoldable pub plane_crossing : Ray → ConicSurface → Told Landing
plane_crossing ray s =
    let raw = neg (ray.origin.z -₆₄ s.vertex) /₆₄ ray.direction.z in
    let t = larger raw 0f in
    let p = point_at ray t in
    if parallel ray then no_crossing 6 else
    if raw <₆₄ neg 1e-7 then no_crossing 6 else
    landed_within t p (distance p.x p.y) s.semi

-- how far from the sag the local z of a point on the sheet may be
abbrev pub sheet_tolerance : Float
sheet_tolerance = 1e-4

-- whether the sag at r exists and z is within the tolerance of it
unfoldable pub near_sag : Float → Float → Float → Float → Bool
near_sag c k z r =
    let sag = conic_sag r c k in
    done sag && (magnitude (z -₆₄ sag.value) <₆₄ sheet_tolerance)

-- the sheet through the vertex
abbrev pub on_sheet : ConicSurface → Vec3 → Float → Bool
on_sheet s p r = near_sag s.curvature s.conic (p.z -₆₄ s.vertex) r

-- the first of the candidates that is on the sheet decides
unfoldable pub first_on : Ray → ConicSurface → List Float → Told Landing
first_on ray s [] = no_crossing 6
first_on ray s (t ∷ l) =
    let p = point_at ray t in
    let r = distance p.x p.y in
    if on_sheet s p r then landed_within t p r s.semi else first_on ray s l

-- a candidate is kept only above -1e-7, and then raised to at least 0
unfoldable pub kept : Float → List Float
kept t = if neg 1e-7 <₆₄ t then larger t 0f ∷ [] else []

unfoldable pub first_root : Float → Float → List Float
first_root q c = if 1e-30 <₆₄ magnitude q then kept (c /₆₄ q) else []

unfoldable pub second_root : Float → Float → List Float
second_root q a = if (1e-30 <₆₄ magnitude a) && (1e-30 <₆₄ magnitude q) then kept (q /₆₄ a) else []

-- two lists of at most one number each, in ascending order
unfoldable pub ascending : List Float → List Float → List Float
ascending [] y = y
ascending (t ∷ l) [] = t ∷ l
ascending (t ∷ l) (u ∷ m) = if u <₆₄ t then u ∷ t ∷ [] else t ∷ u ∷ []

-- A t² + B t + C = 0 where the ray meets the whole quadric
pub record Quadratic : Type 0 where
  pub a : Float
  pub b : Float
  pub c : Float

unfoldable pub quadratic_of : Ray → ConicSurface → Quadratic
quadratic_of ray s =
    let c = s.curvature in
    let k1 = 1f +₆₄ s.conic in
    let px = ray.origin.x in
    let py = ray.origin.y in
    let pz = ray.origin.z -₆₄ s.vertex in
    let dx = ray.direction.x in
    let dy = ray.direction.y in
    let dz = ray.direction.z in
    record {
      a = c *₆₄ (dx *₆₄ dx +₆₄ dy *₆₄ dy +₆₄ k1 *₆₄ dz *₆₄ dz);
      b = 2f *₆₄ (c *₆₄ (px *₆₄ dx +₆₄ py *₆₄ dy +₆₄ k1 *₆₄ pz *₆₄ dz) -₆₄ dz);
      c = c *₆₄ (px *₆₄ px +₆₄ py *₆₄ py +₆₄ k1 *₆₄ pz *₆₄ pz) -₆₄ 2f *₆₄ pz;
    }

unfoldable pub sign_of : Float → Float
sign_of b = if 0f ≤₆₄ b then 1f else neg 1f

abbrev pub discriminant_of : Quadratic → Float
discriminant_of e = e.b *₆₄ e.b -₆₄ 4f *₆₄ e.a *₆₄ e.c

-- the roots are C / q and q / A
abbrev pub q_of : Quadratic → Float
q_of e = neg ½ *₆₄ (e.b +₆₄ sign_of e.b *₆₄ root (discriminant_of e))

unfoldable pub curved_crossing : Ray → ConicSurface → Told Landing
curved_crossing ray s =
    let e = quadratic_of ray s in
    let q = q_of e in
    if discriminant_of e <₆₄ 0f then no_crossing 6 else
    first_on ray s (ascending (first_root q e.c) (second_root q e.a))

-- the Rust's intersect_conic up to the normal
unfoldable pub conic_crossing : Ray → ConicSurface → Told Landing
conic_crossing ray s = if magnitude s.curvature <₆₄ 1e-15 then plane_crossing ray s else curved_crossing ray s

-- the normal that intersect_conic hands out: along the axis for a plane
unfoldable pub normal_at : Vec3 → ConicSurface → Told Vec3
normal_at p s = if magnitude s.curvature <₆₄ 1e-15 then gives backwards else conic_normal p s

-- the front face is that which the ray runs against
unfoldable pub hit_at : Ray → Landing → Vec3 → HitRecord
hit_at ray l n = record { t = l.t; point = l.point; normal = n; front = dot_of ray.direction n <₆₄ 0f }

-- the Rust's intersect_conic
unfoldable pub conic_meet : Ray → ConicSurface → Told HitRecord
conic_meet ray s =
    after no_hit (conic_crossing ray s) (λ l.
    after no_hit (normal_at l.point s) (λ n.
    gives (hit_at ray l n)))

unfoldable pub conic_meet_answer : Ray → ConicSurface → Told HitRecord
conic_meet_answer ray s =
    if not (ray_finite ray && conic_finite s) then refused no_hit (plain 2) else
    if s.semi <₆₄ 0f then refused no_hit (plain 3) else
    checked9 no_hit hit_finite (conic_meet ray s)

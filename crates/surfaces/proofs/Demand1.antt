-- Demand 1 for the public functions: the raw rules' numbers, and from these what is handed out. Assumes nothing.
use Rattle.std.specs.Prelude.{if◌then◌else◌}
use Prim.Native.Nat.{ℕ, zero, suc}
use mathlib.Core.Path.{◌≡◌, refl}
use mathlib.Core.Bool.{Bool, true, false, ◌&&◌}
use mathlib.Core.List.{List, [], ◌∷◌}
use lib.Ieee.{Float}
use lib.Ieee.Scale.{finite}
use Rattle.surfaces.specs.Types.{no_meridians, both_finite}
use Rattle.surfaces.specs.Refusal.{Told, Ended, gives, handed_out, line_of, ended}
use Rattle.surfaces.specs.Snell.{reflected, reflect_answer, bent, refracted, refract_answer}
use Rattle.surfaces.specs.Conic.{from_radius_answer, from_curvature_answer, conic_sag, conic_sag_answer}
use Rattle.surfaces.specs.Conic.{gradient_normal}
use Rattle.surfaces.specs.Conic.{conic_normal, conic_normal_answer, landed_within, plane_crossing, first_on}
use Rattle.surfaces.specs.Conic.{curved_crossing, conic_crossing, normal_at, conic_meet, conic_meet_answer}
use Rattle.surfaces.specs.Newton.{Shape, going, arrived_at, moved_by, pass_at, passes_from, newton_end, next_pass}
use Rattle.surfaces.specs.Newton.{limited_pass}
use Rattle.surfaces.specs.Sags.{edge_root}
use Rattle.surfaces.specs.Asphere.{base_sag, base_slope, even_sag, even_slope, even_facing, even_normal}
use Rattle.surfaces.specs.Asphere.{new_even_answer}
use Rattle.surfaces.specs.Asphere.{even_sag_answer, even_slope_answer, even_normal_answer, even_paraxial_answer}
use Rattle.surfaces.specs.Asphere.{even_crossing_answer, odd_sag, odd_base_slope, odd_slope, odd_slopes_at, odd_normal}
use Rattle.surfaces.specs.Asphere.{normal_of, new_odd_answer, odd_sag_answer, odd_normal_answer, odd_crossing_answer}
use Rattle.surfaces.specs.Biconic.{biconic_sag, biconic_slopes_at, biconic_slopes, biconic_normal}
use Rattle.surfaces.specs.Biconic.{new_biconic_answer, biconic_sag_answer, biconic_slopes_answer, biconic_normal_answer}
use Rattle.surfaces.specs.Biconic.{biconic_crossing_answer, biconic_good, biconic_paraxial_answer, circle_sag}
use Rattle.surfaces.specs.Biconic.{toroid_sag, circle_slopes, toroid_slopes, toroid_normal, new_toroid_answer}
use Rattle.surfaces.specs.Biconic.{toroid_sag_answer, toroid_slopes_answer, toroid_normal_answer}
use Rattle.surfaces.specs.Biconic.{toroid_crossing_answer}
use Rattle.surfaces.specs.Surface.{Way, whole, passes, pass_by, chain_by, normal_by, surface_normal, onward_from}
use Rattle.surfaces.specs.Surface.{turn_answer}
use Rattle.surfaces.specs.Demand1.{Only, Demand1}
use Rattle.surfaces.specs.declared.types.Vec3.{Vec3}
use Rattle.surfaces.specs.declared.types.Ray.{Ray}
use Rattle.surfaces.specs.declared.types.Landing.{Landing}
use Rattle.surfaces.specs.declared.types.Meridians.{Meridians}
use Rattle.surfaces.specs.declared.types.Coefficients.{Coefficients}
use Rattle.surfaces.specs.declared.types.Polynomial.{Polynomial}
use Rattle.surfaces.specs.declared.refusal.Line.{Line}
use Rattle.surfaces.specs.declared.refusal.Refusal.{Refusal}
use Rattle.surfaces.specs.declared.refusal.Refusal.TheVariants.{InvalidParameter, InvalidSurface}
use Rattle.surfaces.specs.declared.refusal.Refusal.TheVariants.{NumericalSingularity, GeometryOutsideAperture}
use Rattle.surfaces.specs.declared.refusal.Refusal.TheVariants.{RayMissedSurface, RayVignetted}
use Rattle.surfaces.specs.declared.refusal.Refusal.TheVariants.{TotalInternalReflection, NotFinite}
use Rattle.surfaces.specs.declared.conic.ConicSurface.{ConicSurface}
use Rattle.surfaces.specs.declared.biconic.BiconicSurface.{BiconicSurface}
use Rattle.surfaces.specs.declared.surface.Kind.{Kind}
use Rattle.surfaces.specs.declared.surface.Kind.TheVariants.{Conic, Asphere, Biconic, Toroid}
use Rattle.surfaces.specs.declared.surface.Surface.{Surface}
use Rattle.surfaces.specs.declared.surface.Boundary.{Boundary}
use Rattle.surfaces.specs.declared.surface.Boundary.TheVariants.{Mirror, Media}
use Rattle.numbers.proofs.Choice.{either}
use Rattle.numbers.specs.Arithmetic.{one_of}
use Rattle.numbers.proofs.Lists.{every, each}

-- a line whose number passes a test
pub record Tells (test : ℕ → Bool) (t : Line) : Type 0 where
  pub told : test t.number ≡ true

-- a test that all numbers of a list pass
pub record Passed (test : ℕ → Bool) (l : List ℕ) : Type 0 where
  pub by_all : every test l ≡ true

-- a line whose number is one of a list, and so passes whatever all of these pass: a longer list, for one
abbrev pub Within : List ℕ → Line → Type 0
Within l t = (test : ℕ → Bool) → Passed test l → Tells test t

within : {l : List ℕ} {t : Line} → Tells (one_of l) t → Within l t
within {l} {t} p test h = record { told = each test l t.number h.by_all p.told }

only : {A : Type 0} (l : List ℕ) (x : Told A) → Tells (one_of l) x.line → Only l x
unfolding Only
only l x p = p.told

-- an answer that goes by a test; `after`, `checked9`, `handed_out` and `accepted` are such too
either_tells : {A : Type 0} (test : ℕ → Bool) (b : Bool) (x y : Told A) → Tells test x.line → Tells test y.line →
    Tells test (if b then x else y).line
either_tells test b x y p q = either (λ z. Tells test z.line) b x y p q

either_ended : (test : ℕ → Bool) (b : Bool) (x y : Ended) → Tells test x.answer.line →
    Tells test y.answer.line → Tells test (if b then x else y).answer.line
either_ended test b x y p q = either (λ z. Tells test z.answer.line) b x y p q

reflection : (i n : Vec3) → Within (1 ∷ 4 ∷ []) (reflected i n).line
unfolding reflected one_of
reflection i n = within (search either_tells)

refraction : (i n : Vec3) (n1 n2 : Float) → Within (1 ∷ 4 ∷ 8 ∷ []) (refracted i n n1 n2).line
unfolding refracted bent one_of
refraction i n n1 n2 = within (search either_tells)

pub conic_normal_lem : (p : Vec3) (s : ConicSurface) → Within (1 ∷ 4 ∷ 5 ∷ []) (conic_normal p s).line
unfolding conic_normal gradient_normal one_of
conic_normal_lem p s = within (search either_tells)

landed : (t : Float) (p : Vec3) (r semi : Float) → Within (1 ∷ 7 ∷ []) (landed_within t p r semi).line
unfolding landed_within one_of
landed t p r semi = within (search either_tells)

first : (ray : Ray) (s : ConicSurface) (l : List Float) → Within (1 ∷ 6 ∷ 7 ∷ []) (first_on ray s l).line
unfolding first_on one_of
first ray s [] = within (record { told = refl })
first ray s (t ∷ l) = within (search (either_tells, landed, first ray s l))

pub crossed : (ray : Ray) (s : ConicSurface) → Within (1 ∷ 6 ∷ 7 ∷ []) (conic_crossing ray s).line
unfolding conic_crossing plane_crossing curved_crossing one_of
crossed ray s = within (search (either_tells, landed, first))

-- the numbers with which Newton's method ends
abbrev ends : List ℕ
ends = 1 ∷ 4 ∷ 6 ∷ 7 ∷ []

-- it ends where a pass does not go on
unless_going : (x : Told Landing) (rest : Ended) (made : ℕ) (g : Bool) → going x ≡ g →
    Tells (one_of (0 ∷ ends)) x.line → Tells (one_of ends) rest.answer.line →
    Tells (one_of ends) (if g then rest else ended x made).answer.line
unfolding one_of
unless_going x rest made true e p r = r
unless_going x rest made false e p r = record { told = rw e at p.told }

module _ (q : Shape) (vertex : Float) (ray : Ray) where
  pass_from : (t : Float) → Within (0 ∷ ends) (pass_at q vertex ray t).line
  unfolding pass_at moved_by arrived_at one_of
  pass_from t = within (search (either_tells, landed) depth 12)

  chained : (left made : ℕ) (t : Float) → Tells (one_of ends) (passes_from q vertex ray left made t).answer.line
  unfolding passes_from one_of
  chained zero made t = record { told = refl }
  chained (suc left) made t =
      unless_going (pass_at q vertex ray t) _ _ _ refl (search pass_from) (chained left (suc made) _)

  newton : Within ends (newton_end q vertex ray).answer.line
  unfolding newton_end one_of
  newton = within (search (either_ended, chained))

edge_root_lem : (x : Float) → Within (1 ∷ 5 ∷ []) (edge_root x).line
unfolding edge_root one_of
edge_root_lem x = within (search either_tells)

even_slope_lem : (c k : Float) (a : Coefficients) (r : Float) → Within (1 ∷ 2 ∷ 4 ∷ 5 ∷ []) (even_slope c k a r).line
unfolding even_slope base_slope one_of
even_slope_lem c k a r = within (search (either_tells, edge_root_lem) depth 8)

odd_slopes_lem : (c k : Float) (a : Polynomial) (x y r : Float) → Within (1 ∷ 5 ∷ []) (odd_slopes_at c k a x y r).line
unfolding odd_slopes_at odd_slope odd_base_slope one_of
odd_slopes_lem c k a x y r = within (search (either_tells, edge_root_lem) depth 10)

biconic_slopes_lem : (cx kx cy ky x y : Float) → Within (1 ∷ 4 ∷ 5 ∷ []) (biconic_slopes cx kx cy ky x y).line
unfolding biconic_slopes biconic_slopes_at one_of
biconic_slopes_lem cx kx cy ky x y = within (search (either_tells, edge_root_lem))

toroid_slopes_lem : (rx cy ky x y : Float) → Within (1 ∷ 5 ∷ []) (toroid_slopes rx cy ky x y).line
unfolding toroid_slopes circle_slopes one_of
toroid_slopes_lem rx cy ky x y = within (search (either_tells, edge_root_lem))

normal : (k : Kind) (s : Surface) (p : Vec3) → Within (1 ∷ 2 ∷ 4 ∷ 5 ∷ []) (normal_by k s p).line
unfolding normal_at even_normal even_facing odd_normal biconic_normal toroid_normal normal_of one_of
normal (Conic c k) s p = within (search (either_tells, conic_normal_lem))
normal (Asphere c k false) s p = within (search (either_tells, even_slope_lem))
normal (Asphere c k true) s p = within (search (either_tells, odd_slopes_lem))
normal (Biconic cx kx cy ky) s p = within (search (either_tells, biconic_slopes_lem))
normal (Toroid rx cy ky) s p = within (search (either_tells, toroid_slopes_lem))

onward : (i n : Vec3) (b : Boundary) → Within (1 ∷ 4 ∷ 8 ∷ []) (onward_from i n b).line
unfolding onward_from one_of
onward i n Mirror = within (search reflection)
onward i n (Media n1 n2) = within (search refraction)

-- a pass, by how the surface is met
pub by_way : (vertex : Float) (ray : Ray) (made : ℕ) (t : Float) (w : Way) →
    Tells (one_of (0 ∷ ends)) (pass_by w vertex ray made t).line
unfolding limited_pass next_pass one_of
by_way vertex ray made t (whole q) = search crossed
by_way vertex ray made t (passes q) = search (either_tells, pass_from)

chain_by_lem : (w : Way) (vertex : Float) (ray : Ray) (left made : ℕ) (t : Float) →
    Tells (one_of (0 ∷ ends)) (chain_by w vertex ray left made t).answer.line
unfolding chain_by one_of
chain_by_lem w vertex ray zero made t = record { told = refl }
chain_by_lem w vertex ray (suc left) made t =
    let x = pass_by w vertex ray made t in
    either_ended _ (going x) (chain_by w vertex ray left (suc made) x.value.t) (ended x (suc made))
    (chain_by_lem w vertex ray left (suc made) x.value.t) (by_way vertex ray made t w)

-- where all five numbers are finite, the first and the third are
tested : (a b c d e : Bool) (m : Meridians) →
    Tells (one_of (1 ∷ 2 ∷ [])) (handed_out 2 no_meridians (λ m. a && c) (a && b && c && d && e) (gives m)).line
unfolding one_of
tested true true true d e m = search either_tells
tested true true false d e m = record { told = refl }
tested true false c d e m = record { told = refl }
tested false b c d e m = record { told = refl }

paraxial : (s : BiconicSurface) → Tells (one_of (1 ∷ 2 ∷ [])) (biconic_paraxial_answer s).line
unfolding biconic_paraxial_answer biconic_good both_finite
paraxial s = tested (finite s.cx) (finite s.kx) (finite s.cy) (finite s.ky) (finite s.semi) _

line_of_lem : (e : Refusal) → one_of (2 ∷ 3 ∷ 4 ∷ 5 ∷ 6 ∷ 7 ∷ 8 ∷ 9 ∷ []) (line_of e).number ≡ true
unfolding one_of
line_of_lem InvalidParameter = refl
line_of_lem InvalidSurface = refl
line_of_lem NumericalSingularity = refl
line_of_lem GeometryOutsideAperture = refl
line_of_lem RayMissedSurface = refl
line_of_lem (RayVignetted r l) = refl
line_of_lem TotalInternalReflection = refl
line_of_lem NotFinite = refl

ruleset tells = (
  only,
  either_tells,
  reflection,
  refraction,
  conic_normal_lem,
  crossed,
  newton,
  edge_root_lem,
  even_slope_lem,
  odd_slopes_lem,
  biconic_slopes_lem,
  toroid_slopes_lem,
  normal,
  onward,
  chain_by_lem,
  paraxial,
)

pub demand_1 : Demand1
unfolding reflect_answer refract_answer from_radius_answer from_curvature_answer conic_sag conic_sag_answer
    conic_normal_answer normal_at conic_meet conic_meet_answer base_sag new_even_answer even_sag even_sag_answer
    even_slope_answer even_normal even_facing even_normal_answer even_paraxial_answer even_crossing_answer
    new_odd_answer odd_sag odd_sag_answer odd_normal odd_normal_answer odd_crossing_answer normal_of new_biconic_answer
    biconic_sag biconic_sag_answer biconic_slopes_answer biconic_normal biconic_normal_answer biconic_crossing_answer
    new_toroid_answer toroid_sag circle_sag toroid_sag_answer toroid_slopes_answer toroid_normal toroid_normal_answer
    toroid_crossing_answer surface_normal turn_answer one_of
demand_1 = record {
  reflect = search tells depth 10;
  snell_refract = search tells depth 10;
  from_radius = search tells depth 10;
  from_curvature = search tells depth 10;
  conic_sag = search tells depth 10;
  conic_normal = search tells depth 10;
  intersect_conic = search tells depth 10;
  even_new = search tells depth 10;
  even_sag = search tells depth 10;
  even_radial_derivative = search tells depth 10;
  even_normal = search tells depth 10;
  even_paraxial_curvature = search tells depth 10;
  even_intersect_ray = search tells depth 10;
  odd_new = search tells depth 10;
  odd_sag = search tells depth 10;
  odd_normal = search tells depth 10;
  odd_intersect_ray = search tells depth 10;
  biconic_new = search tells depth 10;
  biconic_sag = search tells depth 10;
  biconic_derivatives = search tells depth 10;
  biconic_normal = search tells depth 10;
  biconic_intersect_ray = search tells depth 10;
  biconic_paraxial_curvatures = search tells depth 10;
  toroid_new = search tells depth 10;
  toroid_sag = search tells depth 10;
  toroid_derivatives = search tells depth 10;
  toroid_normal = search tells depth 10;
  toroid_intersect_ray = search tells depth 10;
  chain = search tells depth 10;
  turn = search tells depth 10;
  line_of = line_of_lem;
}

-- SCOPE's edges (E1 to E8, E11), both sides of each, a case for each port that looks right (W1 to W4, W6), and the
-- formulas where each of their terms counts: one list, which one theorem covers (P4). A row has a rule's answer and the
-- one worked out by hand, each as a number of the table, the passes where there are any, and the bit patterns of all
-- values. Assumes nothing.
use Rattle.std.specs.Prelude.{ℕ, ◌+◌, ◌-◌, ◌*◌, ◌^◌, Bool, true, false, ◌&&◌, List, [], ◌∷◌, ◌++◌, eqb, length, take}
use Rattle.std.specs.Prelude.{Float, if◌then◌else◌}
use Rattle.std.specs.Float.{nan, inf, binary64}
use Rattle.std.specs.Float.Ieee.{of_bits, to_bits, neg, round}
use Rattle.numbers.specs.Arithmetic.{0f, ½, 1f, 2f, 4f, 1e-4}
use Rattle.surfaces.specs.Types.{vec, backwards, point_at, landing}
use Rattle.surfaces.specs.Types.{meridians, no_landing, no_hit}
use Rattle.surfaces.specs.Types.{no_coefficients, polynomial}
use Rattle.surfaces.specs.Refusal.{Told, Ended, plain, vignetted, gives, refused, no_number, no_pair, no_direction}
use Rattle.surfaces.specs.Refusal.{no_crossing, no_conic, no_leaving, again, ended}
use Rattle.surfaces.specs.Snell.{reflect_answer}
use Rattle.surfaces.specs.Snell.{refract_answer}
use Rattle.surfaces.specs.Conic.{conic_surface, from_radius_answer, from_curvature_answer}
use Rattle.surfaces.specs.Conic.{conic_sag_answer, conic_normal_answer}
use Rattle.surfaces.specs.Conic.{first_on, first_root, second_root}
use Rattle.surfaces.specs.Conic.{ascending, quadratic_of, q_of}
use Rattle.surfaces.specs.Conic.{conic_meet_answer}
use Rattle.surfaces.specs.Asphere.{even_sag_answer, even_slope_answer, even_paraxial_answer}
use Rattle.surfaces.specs.Asphere.{even_crossing_answer}
use Rattle.surfaces.specs.Asphere.{odd_slopes, odd_sag_answer, odd_normal_answer}
use Rattle.surfaces.specs.Asphere.{odd_crossing_answer}
use Rattle.surfaces.specs.Biconic.{biconic_sag_answer, biconic_slopes_answer, biconic_normal_answer}
use Rattle.surfaces.specs.Biconic.{toroid_sag_answer, toroid_slopes_answer}
use Rattle.surfaces.specs.Surface.{pass_answer, surface_end, turn_answer}
use Rattle.surfaces.specs.declared.types.Vec3.{Vec3}
use Rattle.surfaces.specs.declared.types.Ray.{Ray}
use Rattle.surfaces.specs.declared.types.Landing.{Landing}
use Rattle.surfaces.specs.declared.types.HitRecord.{HitRecord}
use Rattle.surfaces.specs.declared.types.Meridians.{Meridians}
use Rattle.surfaces.specs.declared.types.Coefficients.{Coefficients}
use Rattle.surfaces.specs.declared.refusal.Line.{Line}
use Rattle.surfaces.specs.declared.conic.ConicSurface.{ConicSurface}
use Rattle.surfaces.specs.declared.asphere.EvenAsphere.{EvenAsphere}
use Rattle.surfaces.specs.declared.asphere.OddAsphere.{OddAsphere}
use Rattle.surfaces.specs.declared.biconic.BiconicSurface.{BiconicSurface}
use Rattle.surfaces.specs.declared.biconic.ToroidalSurface.{ToroidalSurface}
use Rattle.surfaces.specs.declared.surface.Kind.{Kind}
use Rattle.surfaces.specs.declared.surface.Kind.TheVariants.{Asphere, Biconic, Toroid}
use Rattle.surfaces.specs.declared.surface.Surface.{Surface}
use Rattle.surfaces.specs.declared.surface.Boundary.TheVariants.{Media}
use Rattle.surfaces.specs.declared.surface.Leaving.{Leaving}

-- the binary64 number nearest to n / d
infix 68 ◌over◌
unfoldable pub ◌over◌ : ℕ → ℕ → Float
unfolding round
n over d = round binary64 false n d

abbrev pub whole : ℕ → Float
whole n = n over 1

-- an answer as numbers: the line's number, r and limit, then the values
unfoldable pub bits : List Float → List ℕ
unfolding to_bits
bits [] = []
bits (x ∷ l) = to_bits binary64 x ∷ bits l

abbrev pub row : Line → List Float → List ℕ
row l values = l.number ∷ bits (l.r ∷ l.limit ∷ values)

abbrev pub coordinates : Vec3 → List Float
coordinates v = v.x ∷ v.y ∷ v.z ∷ []

abbrev pub number : Told Float → List ℕ
number t = row t.line (t.value ∷ [])

abbrev pub pair : Told Meridians → List ℕ
pair t = row t.line (t.value.x ∷ t.value.y ∷ [])

abbrev pub direction : Told Vec3 → List ℕ
direction t = row t.line (coordinates t.value)

abbrev pub crossing : Told Landing → List ℕ
crossing t = row t.line (t.value.t ∷ coordinates t.value.point)

abbrev pub meet : Told HitRecord → List ℕ
meet t = row t.line
    (t.value.t ∷
    (if t.value.front then 1f else 0f) ∷ coordinates t.value.point ++ coordinates t.value.normal)

abbrev pub conic : Told ConicSurface → List ℕ
conic t = row t.line (t.value.vertex ∷ t.value.curvature ∷ t.value.conic ∷ t.value.semi ∷ [])

abbrev pub end : Ended → List ℕ
end e = e.passes ∷ crossing e.answer

-- the passes, the number and t alone
abbrev pub reached : Ended → List ℕ
reached e = e.passes ∷ e.answer.line.number ∷ bits (e.answer.value.t ∷ [])

abbrev pub turn : Told Leaving → List ℕ
turn t = row t.line (coordinates t.value.normal ++ coordinates t.value.direction)

pub record Case : Type 0 where
  pub rule : List ℕ
  pub paper : List ℕ

infix 4 ◌⇒◌
abbrev pub ◌⇒◌ : List ℕ → List ℕ → Case
a ⇒ b = record { rule = a; paper = b }

-- whether two lists have the same numbers
abbrev pub same : List ℕ → List ℕ → Bool
same [] [] = true
same [] (n ∷ m) = false
same (k ∷ l) [] = false
same (k ∷ l) (n ∷ m) = eqb k n && same l m

-- whether each rule's answer is the one worked out by hand
abbrev pub agree : List Case → Bool
agree [] = true
agree (c ∷ l) = same c.rule c.paper && agree l

-- rays and surfaces
abbrev pub ray : Vec3 → Vec3 → Ray
ray o d = record { origin = o; direction = d }

abbrev pub z : Vec3
z = vec 0f 0f 1f

abbrev pub ray_on_axis : Float → Ray
ray_on_axis h = ray (vec 0f 0f h) z

abbrev pub plane : Float → ConicSurface
plane v = conic_surface v 0f 0f (whole 10)

-- a hit from the front, at t, where the surface lies across the axis
abbrev pub hit : Float → Vec3 → Told HitRecord
hit t p = gives (record { t = t; point = p; normal = backwards; front = true })

abbrev pub height : Float → Vec3
height h = vec 0f 0f h

-- a hit from the other side
abbrev pub hit_from_behind : Float → Vec3 → Told HitRecord
hit_from_behind t p = gives (record { t = t; point = p; normal = backwards; front = false })

-- the candidates of a conic that is not a plane
abbrev pub candidates : Ray → ConicSurface → List ℕ
candidates ray s = let e = quadratic_of ray s in bits (ascending (first_root (q_of e) e.c) (second_root (q_of e) e.a))

abbrev pub ball : ConicSurface
ball = conic_surface 0f (1 over 8) 0f (whole 10)

abbrev pub unit_ball : ConicSurface
unit_ball = conic_surface 0f 1f 0f (whole 5)

-- a ray that comes to the rim of the unit ball twice, at points less than 1e-6 apart
abbrev pub along_the_rim : Ray
along_the_rim = ray
    (vec (of_bits binary64 0xBFF6_7DD1_CF36_5B7F) (of_bits binary64 0x3FC3_CFEF_8F79_3DBC)
    (of_bits binary64 0x3FF3_F8AA_7E48_A610))
    (vec (of_bits binary64 0x3FE4_03D3_DD47_385F) (of_bits binary64 0xBFE8_F7CF_C125_83B8)
    (of_bits binary64 0xBFCF_C555_41B9_D127))

-- a paraboloid whose sag is r² / 4, and a ray down to it from (-8, 0, 7)
abbrev pub dish : Float → ConicSurface
dish semi = conic_surface 0f ½ (neg 1f) semi

abbrev pub across : Ray
across = ray (vec (neg (whole 8)) 0f (whole 7)) (vec 4f 0f (neg (whole 3)))

-- a ray from h past the vertex, so long that the vertex lies less than 1e-7 of it back
abbrev pub past_the_vertex : Float → Ray
past_the_vertex h = ray (height h) (vec 0f 0f (whole 2048))

abbrev pub below_1e-4 : Float
below_1e-4 = of_bits binary64 0x3F1A_36E2_EB1C_432C

-- these coefficients, and no number in the slots past them
abbrev pub these : List Float → Coefficients
these l = record { count = length l; values = take 8 (l ++ (nan ∷ nan ∷ nan ∷ nan ∷ nan ∷ nan ∷ nan ∷ nan ∷ [])) }

-- a count, with 1 in all slots
abbrev pub ones : ℕ → Coefficients
ones n = record { count = n; values = 1f ∷ 1f ∷ 1f ∷ 1f ∷ 1f ∷ 1f ∷ 1f ∷ 1f ∷ [] }

abbrev pub even : Float → Float → Coefficients → Float → EvenAsphere
even c k a semi = record { curvature = c; conic = k; semi = semi; coefficients = a }

abbrev pub asphere : EvenAsphere
asphere = even (3 over 8) (1 over 3) (these (½ ∷ 1 over 4 ∷ 1 over 8 ∷ [])) (whole 5)

abbrev pub odd : OddAsphere
odd = record {
  curvature = 3 over 20;
  conic = 1 over 3;
  semi = whole 10;
  even = these (½ ∷ neg (1 over 16) ∷ []);
  odd = these (neg (3 over 2) ∷ 3 over 8 ∷ []);
}

abbrev pub biconic : BiconicSurface
biconic = record { cx = 1 over 4; kx = ½; cy = 3 over 16; ky = neg (whole 3); semi = whole 10 }

abbrev pub toroid : Float → Float → Float → ToroidalSurface
toroid rx cy ky = record { rx = rx; cy = cy; ky = ky; semi = whole 10 }

abbrev pub surface : Float → Float → Kind → Coefficients → Surface
surface v semi k a = record { vertex = v; semi = semi; kind = k; polynomial = polynomial a no_coefficients }

-- odd aspheres c 0 with these coefficients of odd powers, and as a surface of a trace
abbrev pub odds : List Float → Float → OddAsphere
odds l semi = record { curvature = 0f; conic = 0f; semi = semi; even = no_coefficients; odd = these l }

abbrev pub cone : List Float → Float → Surface
cone l semi =
    record { vertex = 0f; semi = semi; kind = Asphere 0f 0f true; polynomial = polynomial no_coefficients (these l) }

abbrev pub flat : Float → Surface
flat semi = surface 0f semi (Asphere 0f 0f false) no_coefficients

-- an even asphere c 0 with the coefficient 1/8, and a ray to it from (4, 0, -1) along z
abbrev pub bowl : Float → Surface
bowl semi = surface 0f semi (Asphere 0f 0f false) (these (1 over 8 ∷ []))

abbrev pub beside : Ray
beside = ray (vec 4f 0f (neg 1f)) z

-- a ray from (4, 0, 0), where the bowl rises by 1, that rises by h
abbrev pub rising : Float → Ray
rising h = ray (vec 4f 0f 0f) (vec 1f 0f h)

-- a ray to (1, 0, 0) that rises by h
abbrev pub skimming : Float → Ray
skimming h = ray (vec 0f 0f (neg h)) (vec 1f 0f h)

-- a ray from above a flat surface, whose first pass moves t by 2 ^ -50, back to the surface, and x by 1
abbrev pub sideways : Ray
sideways = ray (vec 0f 0f (1 over 2 ^ 30)) (vec (whole (2 ^ 50)) 0f (whole (2 ^ 20)))

abbrev pub at_minus_1 : Landing
at_minus_1 = landing (neg (1 over 2 ^ 50)) (vec (neg 1f) 0f 0f)

-- a ray from (0, 0, 1), behind the vertex, that rises by 1 while x goes so far
abbrev pub from_the_axis : ℕ → Ray
from_the_axis x = ray (vec 0f 0f 1f) (vec (whole x) 0f 1f)

-- a ray past the sag x², which Newton's method sends from t 0 to t -2 and back
abbrev pub to_and_fro : Ray
to_and_fro = ray (vec 2f 0f 0f) (vec 1f 0f 2f)

-- where the second exit of a flat even asphere lands on a ray from (0, 0, 1e-10) towards (1e200, 0, 1000)
abbrev pub far_out : Vec3
far_out =
    (surface_end (flat (whole 10))
    (ray (vec 0f 0f (1 over 10 ^ 10)) (vec (whole (10 ^ 200)) 0f (whole 1000)))).answer.value.point

abbrev pub steep : Surface
steep = surface 0f (whole 9) (Biconic (whole (10 ^ 308)) (neg 1f) 0f 0f) no_coefficients

unfoldable pub cases : List Case
cases =
    -- conic sag: the paraboloid, the sphere's rim, and just beyond it, where the even asphere still has a sag
    (number (conic_sag_answer 4f (1 over 8) (neg 1f)) ⇒ number (gives 1f)) ∷
    (number (conic_sag_answer 1f 1f 0f) ⇒ number (gives 1f)) ∷
    (number (conic_sag_answer ((2 ^ 52 + 1) over 2 ^ 52) 1f 0f) ⇒ number (no_number 5)) ∷
    (number (even_sag_answer (even 1f 0f no_coefficients 2f) ((2 ^ 52 + 1) over 2 ^ 52))
    ⇒ number (gives ((2 ^ 51 + 1) over 2 ^ 51))) ∷
    -- flat below 1e-15
    (number (conic_sag_answer 1f (1 over 2 ^ 50) (neg 1f)) ⇒ number (gives 0f)) ∷
    (number (conic_sag_answer 1f (1 over 2 ^ 49) (neg 1f)) ⇒ number (gives (1 over 2 ^ 50))) ∷
    -- (1 + k) c c r² groups from the left: c c alone would be infinite; the sag is 2 ^ 599
    (number (conic_sag_answer 1f (whole (2 ^ 600)) (neg 1f)) ⇒ 1 ∷ 0 ∷ 0 ∷ 0x6560_0000_0000_0000 ∷ []) ∷
    -- conic normal off the axis, at a vertex other than 0: the gradient is (1/4, 1/8, -1/4)
    (direction (conic_normal_answer (vec 4f 2f 4f) (conic_surface (whole 3) (1 over 16) (whole 11) (whole 5)))
    ⇒ direction (gives (vec (2 over 3) (1 over 3) (neg (2 over 3))))) ∷
    -- a plane a little behind the origin is met at t 0, one farther behind is missed
    (meet (conic_meet_answer (ray_on_axis (1 over 2 ^ 24)) (plane 0f)) ⇒ meet (hit 0f (height (1 over 2 ^ 24)))) ∷
    (meet (conic_meet_answer (ray_on_axis (1 over 2 ^ 23)) (plane 0f)) ⇒ meet (refused no_hit (plain 6))) ∷
    -- |dz| below 1e-15 is a miss, at a plane and at a kind that passes; above, the ray comes to the surface at t 1
    (meet (conic_meet_answer (skimming (1 over 2 ^ 50)) (plane 0f)) ⇒ meet (refused no_hit (plain 6))) ∷
    (meet (conic_meet_answer (skimming (1 over 2 ^ 49)) (plane 0f)) ⇒ meet (hit 1f (vec 1f 0f 0f))) ∷
    (end (surface_end (flat (whole 10)) (skimming (1 over 2 ^ 50))) ⇒ end (ended (no_crossing 6) 1)) ∷
    (end (surface_end (flat (whole 10)) (skimming (1 over 2 ^ 49))) ⇒ end (ended (gives (landing 1f (vec 1f 0f 0f))) 1))
    ∷
    -- which crossing: of a sphere the nearer from outside, t 2 and not 18; from inside the one on the way back, and on
    -- the way on none, since the far half is not the sheet; of a hyperboloid the vertex sheet's, t 5 and not 3
    (meet (conic_meet_answer (ray_on_axis (neg 2f)) ball) ⇒ meet (hit 2f (height 0f))) ∷
    (meet (conic_meet_answer (ray (height 2f) backwards) ball) ⇒ meet (hit_from_behind 2f (height 0f))) ∷
    (meet (conic_meet_answer (ray_on_axis 2f) ball) ⇒ meet (refused no_hit (plain 6))) ∷
    (meet (conic_meet_answer (ray_on_axis (neg (whole 5))) (conic_surface 0f 1f (neg 2f) (whole 10)))
    ⇒ meet (hit (whole 5) (height 0f))) ∷
    -- the first is beyond the semi-diameter, at r 4: 7, though the second is within, at r 1
    (candidates across (dish 2f) ⇒ bits (1f ∷ (9 over 4) ∷ [])) ∷
    (meet (conic_meet_answer across (dish 2f)) ⇒ meet (refused no_hit (vignetted 4f 2f))) ∷
    (crossing (first_on across (dish 2f) (9 over 4 ∷ []))
    ⇒ crossing (gives (landing (9 over 4) (vec 1f 0f (1 over 4))))) ∷
    -- the normal refuses at the first: 5, though there is one at the second
    (candidates along_the_rim unit_ball ⇒ 0x3FEF_FFFE_B8B7_5845 ∷ 0x3FF0_0000_9008_B959 ∷ []) ∷
    (meet (conic_meet_answer along_the_rim unit_ball) ⇒ meet (refused no_hit (plain 5))) ∷
    ((conic_normal_answer (point_at along_the_rim (of_bits binary64 0x3FF0_0000_9008_B959)) unit_ball).line.number ∷ []
    ⇒ 1 ∷ []) ∷
    -- the sheet rule: 1e-4 from the sag is off the sheet, and the number below is on it
    (meet (conic_meet_answer (past_the_vertex 1e-4) ball) ⇒ meet (refused no_hit (plain 6))) ∷
    (meet (conic_meet_answer (past_the_vertex below_1e-4) ball) ⇒ meet (hit 0f (height below_1e-4))) ∷
    -- a negative semi-diameter is 3 for a conic and 2 for the others, after a number that is not finite, 2
    (meet (conic_meet_answer (ray_on_axis (neg 2f)) (conic_surface 0f 0f 0f (neg 1f)))
    ⇒ meet (refused no_hit (plain 3))) ∷
    (meet (conic_meet_answer (ray_on_axis nan) (conic_surface 0f 0f 0f (neg 1f))) ⇒ meet (refused no_hit (plain 2))) ∷
    (crossing (even_crossing_answer (even 0f 0f no_coefficients (neg 1f)) (ray_on_axis (neg 2f)) 0f)
    ⇒ crossing (no_crossing 2)) ∷
    -- constructors: 4 for NaN before 3 for a negative semi-diameter before 4 for a radius of about 0; an infinite
    -- radius is a plane
    (conic (from_curvature_answer nan 0f (neg 1f)) ⇒ conic (refused no_conic (plain 4))) ∷
    (conic (from_radius_answer 0f 0f (neg 1f)) ⇒ conic (refused no_conic (plain 3))) ∷
    (conic (from_radius_answer 0f 0f 1f) ⇒ conic (refused no_conic (plain 4))) ∷
    (conic (from_radius_answer (inf true) 2f 1f) ⇒ conic (gives (conic_surface 0f 0f 2f 1f))) ∷
    -- the r of a 7 may be infinite, and is then no 9
    (meet (conic_meet_answer (ray (vec 0f 0f (neg 1f)) (vec (whole (10 ^ 200)) 0f 1f)) (plane 0f))
    ⇒ meet (refused no_hit (vignetted (inf false) (whole 10)))) ∷
    -- 9 is a number that an answer would hand out
    (number (even_paraxial_answer (even (whole (10 ^ 308)) 0f (these (whole (10 ^ 308) ∷ [])) 1f))
    ⇒ number (no_number 9)) ∷
    -- even asphere: three coefficients, and a base whose root is 1/2: sag 1 + (2 + 4 + 8), slope 3/2 + (2 + 8 + 24)
    (number (even_sag_answer asphere 2f) ⇒ number (gives (whole 15))) ∷
    (number (even_slope_answer asphere 2f) ⇒ number (gives (71 over 2))) ∷
    -- eight coefficients are added up, a count of nine is refused
    (number (even_sag_answer (even 0f 0f (ones 8) (whole 5)) 2f)
    ⇒ number (gives (whole (4 + 4 ^ 2 + 4 ^ 3 + 4 ^ 4 + 4 ^ 5 + 4 ^ 6 + 4 ^ 7 + 4 ^ 8)))) ∷
    (number (even_sag_answer (even 0f 0f (ones 9) (whole 5)) 2f) ⇒ number (no_number 2)) ∷
    -- odd asphere with such a base: sag 5/2 + (25/2 - 625/16) + (-15/2 + 375/8) at r 5, and there the slope
    -- 3/2 + (5 - 125/4) + (-3/2 + 225/8), which is 15/8
    (number (odd_sag_answer odd (whole 5)) ⇒ number (gives (245 over 16))) ∷
    (direction (odd_normal_answer odd (whole 3) 4f)
    ⇒ direction (gives (vec (9 over 17) (12 over 17) (neg (8 over 17)))))
    ∷
    -- the powers of its odd terms begin at r: a cone that rises by 1/4 is met at t 2, from (4, 0, -1) along z
    (crossing (odd_crossing_answer (odds (1 over 4 ∷ []) (whole 5)) beside 0f)
    ⇒ crossing (gives (landing 2f (vec 4f 0f 1f)))) ∷
    (end (surface_end (cone (1 over 4 ∷ []) (whole 5)) beside)
    ⇒ end (ended (gives (landing 2f (vec 4f 0f 1f))) 2)) ∷
    (crossing (odd_crossing_answer (odds (1 over 4 ∷ []) (neg 1f)) beside 0f) ⇒ crossing (no_crossing 2)) ∷
    -- its slopes are 0 where its normal is the axis, with an odd term below 1e-14, and not above; up to r 1e-14 they
    -- are along x
    (crossing (pass_answer (cone (1 over 2 ^ 47 ∷ []) (whole (2 ^ 60))) (from_the_axis (2 ^ 46)) 0 0f)
    ⇒ crossing (again (neg 1f))) ∷
    (crossing (pass_answer (cone (1 over 2 ^ 46 ∷ []) (whole (2 ^ 60))) (from_the_axis (2 ^ 45)) 0 0f)
    ⇒ crossing (again (neg 2f))) ∷
    (pair (odd_slopes 0f 0f (polynomial no_coefficients (these (½ ∷ []))) 0f (1 over 2 ^ 49) (1 over 2 ^ 49))
    ⇒ pair (gives (meridians ½ 0f))) ∷
    (pair (odd_slopes 0f 0f (polynomial no_coefficients (these (½ ∷ []))) 0f (1 over 2 ^ 46) (1 over 2 ^ 46))
    ⇒ pair (gives (meridians 0f ½))) ∷
    -- even asphere: within 1.5 semi-diameters but beyond one it is vignetted, beyond 1.5 it is missed; slots past the
    -- count are not read
    (end (surface_end (bowl (whole 5)) beside) ⇒ end (ended (gives (landing (whole 3) (vec 4f 0f 2f))) 2)) ∷
    (end (surface_end (bowl (whole 3)) beside) ⇒ end (ended (refused no_landing (vignetted 4f (whole 3))) 2)) ∷
    (end (surface_end (bowl 2f) beside) ⇒ end (ended (no_crossing 6) 1)) ∷
    (number (even_sag_answer (even 0f 0f (these (1 over 8 ∷ [])) (whole 5)) 4f) ⇒ number (gives 2f)) ∷
    -- |f'| below 1e-15 is singular; above, the ray moves on, far beyond the surface
    (end (surface_end (bowl (whole 5)) (rising ((2 ^ 50 + 1) over 2 ^ 50))) ⇒ end (ended (no_crossing 4) 1)) ∷
    (end (surface_end (bowl (whole 5)) (rising ((2 ^ 49 + 1) over 2 ^ 49))) ⇒ end (ended (no_crossing 6) 2)) ∷
    -- the second exit: an even asphere does not check r there, the others do
    (end (surface_end (flat ½) sideways) ⇒ end (ended (gives at_minus_1) 1)) ∷
    (end (surface_end (cone [] ½) sideways) ⇒ end (ended (refused no_landing (vignetted 1f ½)) 1)) ∷
    (end (surface_end (cone [] 1f) sideways) ⇒ end (ended (gives at_minus_1) 1)) ∷
    (end (surface_end (surface 0f ½ (Biconic 0f 0f 0f 0f) no_coefficients) sideways)
    ⇒ end (ended (refused no_landing (vignetted 1f ½)) 1)) ∷
    (end (surface_end (surface 0f 1f (Biconic 0f 0f 0f 0f) no_coefficients) sideways)
    ⇒ end (ended (gives at_minus_1) 1)) ∷
    (end (surface_end (surface 0f ½ (Toroid (whole 5) 0f 0f) no_coefficients) sideways)
    ⇒ end (ended (refused no_landing (vignetted 1f ½)) 1)) ∷
    (end (surface_end (surface 0f 1f (Toroid (whole 5) 0f 0f) no_coefficients) sideways)
    ⇒ end (ended (gives at_minus_1) 1)) ∷
    -- on an even asphere r may be infinite there, which its normal refuses with 2
    (turn (turn_answer (flat (whole 10)) (vec (whole (10 ^ 200)) 0f (whole 1000)) far_out (Media 1f 1f))
    ⇒ turn (refused no_leaving (plain 2))) ∷
    -- the last pass, the 25th or the 35th, ends in a miss if in nothing else
    (end (surface_end (surface 0f (whole 5) (Asphere 0f 0f false) (ones 1)) to_and_fro)
    ⇒ end (ended (no_crossing 6) 25)) ∷
    (end (surface_end (surface 0f (whole 5) (Asphere 0f 0f true) (ones 1)) to_and_fro)
    ⇒ end (ended (no_crossing 6) 25)) ∷
    (end (surface_end (surface 0f (whole 5) (Biconic 2f (neg 1f) 0f 0f) no_coefficients) to_and_fro)
    ⇒ end (ended (no_crossing 6) 35)) ∷
    -- and it may hit: on a ray that touches, x - 64 halves 24 times from -32
    (end (surface_end (surface 0f (whole 100) (Asphere 0f 0f false) (ones 1))
    (ray (vec (whole 32) 0f 0f) (vec 1f 0f (whole 128)))) ⇒
    end (ended
    (gives (landing ((2 ^ 24 - 1) over 2 ^ 19) (vec ((2 ^ 25 - 1) over 2 ^ 19) 0f ((2 ^ 24 - 1) over 2 ^ 12)))) 25)) ∷
    -- biconic off the axis: the root is 2 and the numerator 16, the slopes are 2/3 + 1/3 and 1 - 1/2
    (number (biconic_sag_answer biconic 4f (whole 8)) ⇒ number (gives (16 over 3))) ∷
    (pair (biconic_slopes_answer biconic 4f (whole 8)) ⇒ pair (gives (meridians 1f ½))) ∷
    (direction (biconic_normal_answer biconic 4f (whole 8))
    ⇒ direction (gives (vec (2 over 3) (1 over 3) (neg (2 over 3))))) ∷
    -- toroid: both signs of rx, and the circle's rim, which has a sag and no slope
    (number (toroid_sag_answer (toroid (whole 5) 0f 0f) (whole 3) 0f) ⇒ number (gives 1f)) ∷
    (number (toroid_sag_answer (toroid (neg (whole 5)) 0f 0f) (whole 3) 0f) ⇒ number (gives (neg 1f))) ∷
    (number (toroid_sag_answer (toroid (whole 5) 0f 0f) (whole 5) 0f) ⇒ number (gives (whole 5))) ∷
    (pair (toroid_slopes_answer (toroid (whole 5) 0f 0f) (whole 5) 0f) ⇒ pair (no_pair 5)) ∷
    -- off both axes: the base curve has the root 1/2, the sag 2 and the slope 1, so the circle's radius is 5, or -5
    -- where rx is below 0
    (number (toroid_sag_answer (toroid (whole 7) (1 over 12) 2f) (whole 3) (whole 6)) ⇒ number (gives (whole 3))) ∷
    (pair (toroid_slopes_answer (toroid (whole 7) (1 over 12) 2f) (whole 3) (whole 6))
    ⇒ pair (gives (meridians (3 over 4) (5 over 4)))) ∷
    (pair (toroid_slopes_answer (toroid (neg (whole 3)) (1 over 12) 2f) (whole 3) (whole 6))
    ⇒ pair (gives (meridians (neg (3 over 4)) (5 over 4)))) ∷
    -- its sag takes NaN, and so it is missed after all its passes; the others are missed in the first
    (end (surface_end (surface (whole (10 ^ 308)) (whole 10) (Toroid (whole 5) 0f 0f) no_coefficients)
    (ray_on_axis (neg (whole (10 ^ 308))))) ⇒ end (ended (no_crossing 6) 35)) ∷
    (end (surface_end (surface (whole (10 ^ 308)) (whole 10) (Asphere 0f 0f false) no_coefficients)
    (ray_on_axis (neg (whole (10 ^ 308))))) ⇒ end (ended (no_crossing 6) 1)) ∷
    (end (surface_end (surface (whole (10 ^ 308)) (whole 10) (Biconic 0f 0f 0f 0f) no_coefficients)
    (ray_on_axis (neg (whole (10 ^ 308))))) ⇒ end (ended (no_crossing 6) 1)) ∷
    -- a normal that is not finite meets refraction's own test, 4 and not 9
    (reached (surface_end steep (ray (vec 1f 0f (whole (5 * 10 ^ 307))) z)) ⇒ 1 ∷ 1 ∷ bits (0f ∷ [])) ∷
    (turn (turn_answer steep z (vec 1f 0f (whole (5 * 10 ^ 307))) (Media 1f 1f))
    ⇒ turn (refused no_leaving (plain 4))) ∷
    -- refraction: k exactly 0 passes, below it is total reflection
    (direction (refract_answer (vec 1f 0f 0f) backwards 1f 1f) ⇒ direction (gives (vec 1f 0f 0f))) ∷
    (direction (refract_answer (vec 1f 0f 0f) backwards 2f 1f) ⇒ direction (no_direction 8)) ∷
    -- with eta 3/4 a sine of 4/5 becomes 3/5, on whichever side the normal is given: (7/9, -4/45, 28/45)
    (direction (refract_answer (vec (whole 28) 4f (whole 35)) (vec (neg (whole 8)) 4f (neg 1f)) (whole 3) 4f)
    ⇒ 1 ∷ 0 ∷ 0 ∷ 0x3FE8_E38E_38E3_8E39 ∷ 0xBFB6_C16C_16C1_6C17 ∷ 0x3FE3_E93E_93E9_3E94 ∷ []) ∷
    (direction (refract_answer (vec (whole 28) 4f (whole 35)) (vec (whole 8) (neg 4f) 1f) (whole 3) 4f)
    ⇒ 1 ∷ 0 ∷ 0 ∷ 0x3FE8_E38E_38E3_8E39 ∷ 0xBFB6_C16C_16C1_6C17 ∷ 0x3FE3_E93E_93E9_3E94 ∷ []) ∷
    -- a mirror, and one whose normal is given on the other side: (29/45, -28/45, -4/9)
    (direction (reflect_answer z backwards) ⇒ direction (gives (vec 0f 0f (neg 1f)))) ∷
    (direction (reflect_answer (vec (whole 35) (neg 4f) (whole 28)) (vec 1f 4f (whole 8)))
    ⇒ 1 ∷ 0 ∷ 0 ∷ 0x3FE4_9F49_F49F_49F5 ∷ 0xBFE3_E93E_93E9_3E94 ∷ 0xBFDC_71C7_1C71_C71C ∷ []) ∷ []

-- Which crossing it is (SCOPE S10): a conic that is not a plane is met at the first, the least candidate that meets
-- the sheet rule. Candidates are told by the quadratic's coefficients and the limits alone, without order or search,
-- and the sheet rule by the sag. docs/CROSSINGS.md has it in words. Definitions only.
use Rattle.std.specs.Prelude.{◌≡◌, ◌≢◌, ◌↔◌, true, false, ◌&&◌, Float, if◌then◌else◌}
use Rattle.std.specs.Float.Ieee.{neg}
use Rattle.numbers.specs.Arithmetic.{◌-₆₄◌, ◌/₆₄◌, ◌<₆₄◌, 0f, 1e-4, 1e-7, 1e-15, 1e-30}
use Rattle.numbers.specs.Basic.{magnitude, larger}
use Rattle.surfaces.specs.Types.{distance, point_at, ray_finite, landing, no_hit, hit_finite}
use Rattle.surfaces.specs.Refusal.{Told, plain, vignetted, gives, refused, done, after, checked9}
use Rattle.surfaces.specs.Conic.{Quadratic, quadratic_of, discriminant_of, q_of, conic_sag, conic_normal, conic_finite}
use Rattle.surfaces.specs.Conic.{hit_at, conic_meet_answer}
use Rattle.surfaces.specs.declared.types.Ray.{Ray}
use Rattle.surfaces.specs.declared.types.HitRecord.{HitRecord}
use Rattle.surfaces.specs.declared.conic.ConicSurface.{ConicSurface}

-- the roots of A t² + B t + C: C / q, and q / A where |A| > 1e-30
pub data RootOf (e : Quadratic) : Float → Type 0 where
  c_over_q : RootOf e (e.c /₆₄ q_of e)
  q_over_a : (1e-30 <₆₄ magnitude e.a) ≡ true → RootOf e (q_of e /₆₄ e.a)

-- a candidate: a root above -1e-7, raised to at least 0; there is none with a discriminant below 0, and none unless
-- |q| > 1e-30
pub record Candidate (e : Quadratic) (t : Float) : Type 0 where
  pub discriminant : (discriminant_of e <₆₄ 0f) ≡ false
  pub q_counts : (1e-30 <₆₄ magnitude (q_of e)) ≡ true
  pub raw : Float
  pub root_of : RootOf e raw
  pub above : (neg 1e-7 <₆₄ raw) ≡ true
  pub raised : t ≡ larger raw 0f

-- how far the point at t is from the axis
abbrev pub r_at : Ray → Float → Float
r_at ray t = let p = point_at ray t in distance p.x p.y

-- the sag at that distance
abbrev pub sag_at : Ray → ConicSurface → Float → Told Float
sag_at ray s t = conic_sag (r_at ray t) s.curvature s.conic

-- the sheet rule: the sag exists at the point's r, and its z from the vertex is within 1e-4 of it
pub record OnSheet (ray : Ray) (s : ConicSurface) (t : Float) : Type 0 where
  pub exists : done (sag_at ray s t) ≡ true
  pub near : (magnitude ((point_at ray t).z -₆₄ s.vertex -₆₄ (sag_at ray s t).value) <₆₄ 1e-4) ≡ true

-- a crossing: a candidate that meets the sheet rule
pub record Crosses (ray : Ray) (s : ConicSurface) (t : Float) : Type 0 where
  pub candidate : Candidate (quadratic_of ray s) t
  pub on_sheet : OnSheet ray s t

-- the first crossing: none is smaller
pub record First (ray : Ray) (s : ConicSurface) (t : Float) : Type 0 where
  pub crosses : Crosses ray s t
  pub none_smaller : (u : Float) → Crosses ray s u → (u <₆₄ t) ≡ false

abbrev pub Never : Ray → ConicSurface → Type 0
Never ray s = (t : Float) → Crosses ray s t → ⊥

-- What an answer x says of the crossings. `t_of` is the t of a hit.
pub record ByFirst {A : Type 0} (ray : Ray) (s : ConicSurface) (t_of : A → Float) (x : Told A) : Type 0 where
  -- 6 exactly if there is none
  pub missed : (x.line.number ≡ 6) ↔ Never ray s
  -- 7 exactly if the first is beyond the semi-diameter, whatever lies behind it, and with its r
  pub beyond : (x.line.number ≡ 7) ↔ ((t : Float) × First ray s t × ((s.semi <₆₄ r_at ray t) ≡ true))
  pub with_its_r : (t : Float) → First ray s t → (s.semi <₆₄ r_at ray t) ≡ true
      → x.line ≡ vignetted (r_at ray t) s.semi
  -- a hit is on the first
  pub hit : done x ≡ true → First ray s (t_of x.value)

-- what is answered at t: 7 if r is beyond the semi-diameter, else the normal's refusal, else 9, else a hit
unfoldable pub meet_at : Ray → ConicSurface → Float → Told HitRecord
meet_at ray s t =
    let p = point_at ray t in
    if s.semi <₆₄ r_at ray t then refused no_hit (vignetted (r_at ray t) s.semi) else
    checked9 no_hit hit_finite
    (after no_hit (conic_normal p s) (λ n.
    gives (hit_at ray (landing t p) n)))

-- What `intersect_conic` answers.
pub record MetAtFirst (ray : Ray) (s : ConicSurface) : Type 0 where
  pub by_first : ByFirst ray s (λ h. h.t) (conic_meet_answer ray s)
  -- there is one first crossing at most, and it decides the whole answer
  pub only_one : (t u : Float) → First ray s t → First ray s u → t ≡ u
  pub at_first : (t : Float) → First ray s t → conic_meet_answer ray s ≡ meet_at ray s t
  -- and without one it is a miss
  pub at_none : Never ray s → conic_meet_answer ray s ≡ refused no_hit (plain 6)
  -- so every answer but 6 is that of the first crossing
  pub otherwise : (conic_meet_answer ray s).line.number ≢ 6
      → (t : Float) × First ray s t × (conic_meet_answer ray s ≡ meet_at ray s t)

-- behind its checks, for a conic that is not a plane
abbrev pub FirstCrossing : Type 0
FirstCrossing =
    (ray : Ray) (s : ConicSurface) →
    (ray_finite ray && conic_finite s) ≡ true → (s.semi <₆₄ 0f) ≡ false → (magnitude s.curvature <₆₄ 1e-15) ≡ false →
    MetAtFirst ray s

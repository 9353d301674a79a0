-- Newton's method, over what a kind of surface brings to it. Definitions only.
use Rattle.std.specs.Prelude.{ℕ, zero, suc, ◌+◌, Bool, not, ◌&&◌, eqb, leb, Float, if◌then◌else◌}
use Rattle.std.specs.Float.Ieee.Scale.{finite}
use Rattle.numbers.specs.Arithmetic.{◌+₆₄◌, ◌-₆₄◌, ◌*₆₄◌, ◌/₆₄◌, ◌<₆₄◌, 0f, 1½, 1e-11, 1e-12, 1e-15}
use Rattle.numbers.specs.Basic.{magnitude}
use Rattle.surfaces.specs.Types.{distance, point_at, landing, no_landing, landing_finite, ray_finite}
use Rattle.surfaces.specs.Refusal.{handed_out, Told, Ended, gives, done, again, ended, no_crossing}
use Rattle.surfaces.specs.Conic.{landed_within, parallel}
use Rattle.surfaces.specs.declared.types.Vec3.{Vec3}
use Rattle.surfaces.specs.declared.types.Ray.{Ray}
use Rattle.surfaces.specs.declared.types.Landing.{Landing}
use Rattle.surfaces.specs.declared.types.Meridians.{Meridians}

-- What a kind brings: sag and slopes at a point whose distance from the axis is given; the semi-diameter; whether r is
-- checked where the move was small; and how many passes there may be.
pub record Shape : Type 0 where
  pub sag : Float → Vec3 → Told Float
  pub slopes : Float → Vec3 → Told Meridians
  pub semi : Float
  pub checks_last : Bool
  pub limit : ℕ

-- where the move was small
unfoldable pub arrived_at : Bool → Float → Ray → Float → Told Landing
arrived_at checks semi ray t =
    let p = point_at ray t in
    if checks then landed_within t p (distance p.x p.y) semi else gives (landing t p)

-- the move from t, by the residual f and the slopes
unfoldable pub moved_by : Bool → Float → Ray → Float → Float → Meridians → Told Landing
moved_by checks semi ray t f m =
    let d = ray.direction in
    let slope = d.z -₆₄ (m.x *₆₄ d.x +₆₄ m.y *₆₄ d.y) in
    let move = f /₆₄ slope in
    if magnitude slope <₆₄ 1e-15 then no_crossing 4 else
    if magnitude move <₆₄ 1e-12 then arrived_at checks semi ray (t -₆₄ move) else
    again (t -₆₄ move)

-- one pass from t
unfoldable pub pass_at : Shape → Float → Ray → Float → Told Landing
pass_at q vertex ray t =
    let p = point_at ray t in
    let r = distance p.x p.y in
    let z = q.sag r p in
    let f = p.z -₆₄ vertex -₆₄ z.value in
    let m = q.slopes r p in
    if q.semi *₆₄ 1½ <₆₄ r then no_crossing 6 else
    if not (done z) then no_crossing 6 else
    if magnitude f <₆₄ 1e-11 then landed_within t p r q.semi else
    if not (done m) then no_crossing 6 else
    moved_by q.checks_last q.semi ray t f m.value

-- where the ray meets the vertex plane; a t below 0 is made 0
unfoldable pub vertex_plane : Float → Ray → Float
vertex_plane vertex ray =
    let t = (vertex -₆₄ ray.origin.z) /₆₄ ray.direction.z in
    if t <₆₄ 0f then 0f else t

abbrev pub going : Told Landing → Bool
going x = eqb x.line.number 0

-- passes from t on, with so many left and so many made
unfoldable pub passes_from : Shape → Float → Ray → ℕ → ℕ → Float → Ended
passes_from q vertex ray zero made t = ended (no_crossing 6) made
passes_from q vertex ray (suc left) made t =
    let x = pass_at q vertex ray t in
    if going x then passes_from q vertex ray left (suc made) x.value.t else ended x (suc made)

-- the Rust's intersect_ray, with the passes that it takes
unfoldable pub newton_end : Shape → Float → Ray → Ended
newton_end q vertex ray =
    if parallel ray then ended (no_crossing 6) 1 else
    passes_from q vertex ray q.limit 0 (vertex_plane vertex ray)

-- what a single intersection tests before it: all numbers finite, and no negative semi-diameter
abbrev pub can_be_met : Bool → Float → Ray → Float → Bool
can_be_met good semi ray vertex = ray_finite ray && finite vertex && good && not (semi <₆₄ 0f)

abbrev pub newton_answer : Bool → Shape → Ray → Float → Told Landing
newton_answer good q ray vertex =
    handed_out 2 no_landing landing_finite (can_be_met good q.semi ray vertex) (newton_end q vertex ray).answer

-- where a pass begins: the first at the vertex plane
unfoldable pub pass_start : Float → Ray → ℕ → Float → Float
pass_start vertex ray made t = if eqb made 0 then vertex_plane vertex ray else t

-- the pass after `made` passes: the test of dz belongs to the first
unfoldable pub next_pass : Shape → Float → Ray → ℕ → Float → Told Landing
next_pass q vertex ray made t =
    if eqb made 0 && parallel ray then no_crossing 6 else
    pass_at q vertex ray (pass_start vertex ray made t)

-- the same with the limit: the last pass ends in a miss if in nothing else
unfoldable pub limited_pass : Shape → Float → Ray → ℕ → Float → Told Landing
limited_pass q vertex ray made t =
    let x = next_pass q vertex ray made t in
    if going x && leb q.limit (made + 1) then no_crossing 6 else x

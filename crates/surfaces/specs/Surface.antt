-- The kinds of surfaces together, for a trace: one pass, what ends a surface, and how a ray goes on. Definitions only.
use Rattle.std.specs.Prelude.{ℕ, zero, suc, ◌≤◌, ◌≡◌, true, false, Float, if◌then◌else◌}
use Rattle.numbers.specs.Arithmetic.{◌<₆₄◌, 0f}
use Rattle.surfaces.specs.Types.{dot_of, no_polynomial}
use Rattle.surfaces.specs.Refusal.{Told, Ended, gives, after, again, ended, no_leaving}
use Rattle.surfaces.specs.Snell.{reflected, refracted}
use Rattle.surfaces.specs.Conic.{conic_surface, conic_crossing, normal_at}
use Rattle.surfaces.specs.Newton.{Shape, newton_end, limited_pass, going}
use Rattle.surfaces.specs.Asphere.{even_shape, even_normal, odd_shape, odd_normal}
use Rattle.surfaces.specs.Biconic.{biconic_shape, biconic_normal, toroid_shape, toroid_normal}
use Rattle.surfaces.specs.declared.types.Vec3.{Vec3}
use Rattle.surfaces.specs.declared.types.Ray.{Ray}
use Rattle.surfaces.specs.declared.types.Landing.{Landing}
use Rattle.surfaces.specs.declared.conic.ConicSurface.{ConicSurface}
use Rattle.surfaces.specs.declared.surface.Kind.{Kind}
use Rattle.surfaces.specs.declared.surface.Kind.TheVariants.{Conic, Asphere, Biconic, Toroid}
use Rattle.surfaces.specs.declared.surface.Surface.{Surface}
use Rattle.surfaces.specs.declared.surface.Boundary.{Boundary}
use Rattle.surfaces.specs.declared.surface.Boundary.TheVariants.{Mirror, Media}
use Rattle.surfaces.specs.declared.surface.Leaving.{Leaving}

abbrev pub conic_of : Surface → Float → Float → ConicSurface
conic_of s c k = conic_surface s.vertex c k s.semi

-- how a surface is met: as a whole, or by passes over what its kind brings to Newton's method
pub data Way : Type 0 where
  whole : ConicSurface → Way
  passes : Shape → Way

abbrev pub way_of : Kind → Surface → Way
way_of (Conic c k) s = whole (conic_of s c k)
way_of (Asphere c k false) s = passes (even_shape c k s.polynomial.even s.semi)
way_of (Asphere c k true) s = passes (odd_shape c k s.polynomial s.semi)
way_of (Biconic cx kx cy ky) s = passes (biconic_shape cx kx cy ky s.semi)
way_of (Toroid rx cy ky) s = passes (toroid_shape rx cy ky s.semi)

-- one pass over a surface, after `made` passes from t; one that is met as a whole is met in one
abbrev pub pass_by : Way → Float → Ray → ℕ → Float → Told Landing
pass_by (whole q) vertex ray made t = conic_crossing ray q
pass_by (passes q) vertex ray made t = limited_pass q vertex ray made t

unfoldable pub pass_answer : Surface → Ray → ℕ → Float → Told Landing
pass_answer s ray made t = pass_by (way_of s.kind s) s.vertex ray made t

-- the end of a surface by its kind's own rule, with the passes that it takes
abbrev pub end_by : Way → Float → Ray → Ended
end_by (whole q) vertex ray = ended (conic_crossing ray q) 1
end_by (passes q) vertex ray = newton_end q vertex ray

unfoldable pub surface_end : Surface → Ray → Ended
surface_end s ray = end_by (way_of s.kind s) s.vertex ray

abbrev pub limit_by : Way → ℕ
limit_by (whole q) = 1
limit_by (passes q) = q.limit

-- a surface of a kind, and nothing else of it
abbrev pub bare : Kind → Surface
bare k = record { vertex = 0f; semi = 0f; kind = k; polynomial = no_polynomial }

-- how many passes a kind may take
unfoldable pub limit_of : Kind → ℕ
limit_of k = limit_by (way_of k (bare k))

-- passes one after another, so many at most
unfoldable pub chain_by : Way → Float → Ray → ℕ → ℕ → Float → Ended
chain_by w vertex ray zero made t = ended (again t) made
chain_by w vertex ray (suc n) made t =
    let x = pass_by w vertex ray made t in
    if going x then chain_by w vertex ray n (suc made) x.value.t else ended x (suc made)

abbrev pub chain : Surface → Ray → ℕ → ℕ → Float → Ended
chain s ray n made t = chain_by (way_of s.kind s) s.vertex ray n made t

-- a chain of passes ends as the kind's own rule says, within the kind's limit
pub record ChainEnds (s : Surface) (ray : Ray) (t : Float) : Type 0 where
  pub same : chain s ray (limit_of s.kind) 0 t ≡ surface_end s ray
  pub ends : going (surface_end s ray).answer ≡ false
  pub within : (surface_end s ray).passes ≤ limit_of s.kind

abbrev pub normal_by : Kind → Surface → Vec3 → Told Vec3
normal_by (Conic c k) s p = normal_at p (conic_of s c k)
normal_by (Asphere c k false) s p = even_normal c k s.polynomial.even p.x p.y
normal_by (Asphere c k true) s p = odd_normal c k s.polynomial p.x p.y
normal_by (Biconic cx kx cy ky) s p = biconic_normal cx kx cy ky p.x p.y
normal_by (Toroid rx cy ky) s p = toroid_normal rx cy ky p.x p.y

unfoldable pub surface_normal : Surface → Vec3 → Told Vec3
surface_normal s p = normal_by s.kind s p

-- a mirror reflects, and media refract
unfoldable pub onward_from : Vec3 → Vec3 → Boundary → Told Vec3
onward_from i n Mirror = reflected i n
onward_from i n (Media n1 n2) = refracted i n n1 n2

-- how a ray goes on from a point: normal, new direction, front face
unfoldable pub turn_answer : Surface → Vec3 → Vec3 → Boundary → Told Leaving
turn_answer s i p b =
    after no_leaving (surface_normal s p) (λ n.
    after no_leaving (onward_from i n b) (λ v.
    gives (record { normal = n; direction = v; front = dot_of i n <₆₄ 0f })))

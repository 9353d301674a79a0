-- What bench/ reads of an answer: the sum of its numbers, 0 of a refusal. Definitions only.
use Rattle.std.specs.Prelude.{[], ◌∷◌, Float, if◌then◌else◌}
use Rattle.numbers.specs.Arithmetic.{◌+₆₄◌, 0f}
use Rattle.surfaces.specs.Refusal.{Told, done}
use Rattle.surfaces.specs.Conic.{conic_meet_answer}
use Rattle.surfaces.specs.Snell.{refract_answer}
use Rattle.surfaces.specs.Asphere.{even_crossing_answer, even_normal_answer}
use Rattle.surfaces.specs.declared.types.Vec3.{Vec3}
use Rattle.surfaces.specs.declared.types.Ray.{Ray}
use Rattle.surfaces.specs.declared.types.Landing.{Landing}
use Rattle.surfaces.specs.declared.types.HitRecord.{HitRecord}
use Rattle.surfaces.specs.declared.conic.ConicSurface.{ConicSurface}
use Rattle.surfaces.specs.declared.asphere.EvenAsphere.{EvenAsphere}
use Rattle.surfaces.specs.declared.biconic.BiconicSurface.{BiconicSurface}
use Rattle.surfaces.specs.declared.biconic.ToroidalSurface.{ToroidalSurface}

abbrev pub even_of : Float → Float → Float → Float → Float → EvenAsphere
even_of c k semi a b = record {
  curvature = c;
  conic = k;
  semi = semi;
  coefficients = record { count = 2; values = a ∷ b ∷ 0f ∷ 0f ∷ 0f ∷ 0f ∷ 0f ∷ 0f ∷ [] };
}

abbrev pub biconic_of : Float → Float → Float → Float → Float → BiconicSurface
biconic_of cx kx cy ky semi = record { cx = cx; kx = kx; cy = cy; ky = ky; semi = semi }

abbrev pub toroid_of : Float → Float → Float → Float → ToroidalSurface
toroid_of rx cy ky semi = record { rx = rx; cy = cy; ky = ky; semi = semi }

abbrev pub sum_vec : Told Vec3 → Float
sum_vec t = if done t then t.value.x +₆₄ t.value.y +₆₄ t.value.z else 0f

abbrev pub sum_landing : Told Landing → Float
sum_landing t =
    let p = t.value.point in
    if done t then t.value.t +₆₄ p.x +₆₄ p.y +₆₄ p.z else 0f

abbrev pub sum_hit : Told HitRecord → Float
sum_hit t =
    let p = t.value.point in
    let n = t.value.normal in
    if done t then t.value.t +₆₄ p.x +₆₄ p.y +₆₄ p.z +₆₄ n.x +₆₄ n.y +₆₄ n.z else 0f

-- the direction behind a conic, and behind an even asphere
abbrev pub conic_then : Ray → ConicSurface → Float → Float → Float
conic_then ray s n1 n2 =
    let h = conic_meet_answer ray s in
    if done h then sum_vec (refract_answer ray.direction h.value.normal n1 n2) else 0f

abbrev pub even_then : Ray → Float → EvenAsphere → Float → Float → Float
even_then ray vertex s n1 n2 =
    let l = even_crossing_answer s ray vertex in
    let n = even_normal_answer s l.value.point.x l.value.point.y in
    if done l then (if done n then sum_vec (refract_answer ray.direction n.value n1 n2) else 0f) else 0f

-- Reflection and refraction. Definitions only.
use Rattle.std.specs.Prelude.{Bool, not, ◌&&◌, ◌||◌, Float, if◌then◌else◌}
use Rattle.std.specs.Float.Ieee.{neg}
use Rattle.std.specs.Float.Ieee.Scale.{finite}
use Rattle.numbers.specs.Arithmetic.{◌+₆₄◌, ◌-₆₄◌, ◌*₆₄◌, ◌/₆₄◌, ◌<₆₄◌, ◌≤₆₄◌, 0f, 1f, 2f, 1e-30}
use Rattle.numbers.specs.Basic.{larger, clamped}
use Rattle.numbers.specs.Root.{root}
use Rattle.surfaces.specs.Types.{vec, zeros, dot_of, squared_length, over_of, all_finite}
use Rattle.surfaces.specs.Refusal.{Told, gives, no_direction, checked9}
use Rattle.surfaces.specs.declared.types.Vec3.{Vec3}

unfoldable pub turned_if : Bool → Vec3 → Vec3
turned_if b v = if b then vec (neg v.x) (neg v.y) (neg v.z) else v

unfoldable pub negated_if : Bool → Float → Float
negated_if b x = if b then neg x else x

-- the unit vector i, thrown back at a surface with the unit normal n
unfoldable pub mirrored : Vec3 → Vec3 → Vec3
mirrored i n =
    let d = dot_of i n in
    let m = turned_if (0f <₆₄ d) n in
    let w = 2f *₆₄ negated_if (0f <₆₄ d) d in
    vec (i.x -₆₄ w *₆₄ m.x) (i.y -₆₄ w *₆₄ m.y) (i.z -₆₄ w *₆₄ m.z)

-- the Rust's reflect
unfoldable pub reflected : Vec3 → Vec3 → Told Vec3
reflected i n =
    let i_sq = squared_length i in
    let n_sq = squared_length n in
    if not (all_finite i && all_finite n) then no_direction 4 else
    if (i_sq <₆₄ 1e-30) || (n_sq <₆₄ 1e-30) then no_direction 4 else
    gives (mirrored (over_of i (root i_sq)) (over_of n (root n_sq)))

unfoldable pub reflect_answer : Vec3 → Vec3 → Told Vec3
reflect_answer i n = checked9 zeros all_finite (reflected i n)

-- the unit vector i, bent at a surface with the unit normal n, from a medium of eta times the index behind it
unfoldable pub bent : Vec3 → Vec3 → Float → Told Vec3
bent i n eta =
    let d = neg (dot_of i n) in
    let m = turned_if (d <₆₄ 0f) n in
    let cos_i = clamped (negated_if (d <₆₄ 0f) d) in
    let k = 1f -₆₄ eta *₆₄ eta *₆₄ larger (1f -₆₄ cos_i *₆₄ cos_i) 0f in
    let w = eta *₆₄ cos_i -₆₄ root k in
    if k <₆₄ 0f then no_direction 8 else
    gives (vec (eta *₆₄ i.x +₆₄ w *₆₄ m.x) (eta *₆₄ i.y +₆₄ w *₆₄ m.y) (eta *₆₄ i.z +₆₄ w *₆₄ m.z))

-- the Rust's snell_refract
unfoldable pub refracted : Vec3 → Vec3 → Float → Float → Told Vec3
refracted i n n1 n2 =
    let i_sq = squared_length i in
    let n_sq = squared_length n in
    if not (all_finite i && all_finite n && finite n1 && finite n2) then no_direction 4 else
    if (n1 ≤₆₄ 0f) || (n2 ≤₆₄ 0f) then no_direction 4 else
    if (i_sq <₆₄ 1e-30) || (n_sq <₆₄ 1e-30) then no_direction 4 else
    bent (over_of i (root i_sq)) (over_of n (root n_sq)) (n1 /₆₄ n2)

unfoldable pub refract_answer : Vec3 → Vec3 → Float → Float → Told Vec3
refract_answer i n n1 n2 = checked9 zeros all_finite (refracted i n n1 n2)

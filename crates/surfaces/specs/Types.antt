-- Vectors, rays and coefficients (SCOPE B9, T6). Definitions only.
use Rattle.std.specs.Prelude.{Bool, true, false, ◌&&◌, List, [], ◌∷◌, leb, take, Float}
use Rattle.std.specs.Float.Ieee.{neg}
use Rattle.std.specs.Float.Ieee.Scale.{finite}
use Rattle.numbers.specs.Arithmetic.{◌+₆₄◌, ◌*₆₄◌, ◌/₆₄◌, 0f, 1f}
use Rattle.numbers.specs.Root.{root}
use Rattle.surfaces.specs.declared.types.Vec3.{Vec3}
use Rattle.surfaces.specs.declared.types.Ray.{Ray}
use Rattle.surfaces.specs.declared.types.Landing.{Landing}
use Rattle.surfaces.specs.declared.types.HitRecord.{HitRecord}
use Rattle.surfaces.specs.declared.types.Meridians.{Meridians}
use Rattle.surfaces.specs.declared.types.Coefficients.{Coefficients}
use Rattle.surfaces.specs.declared.types.Polynomial.{Polynomial}

abbrev pub vec : Float → Float → Float → Vec3
vec x y z = record { x = x; y = y; z = z }

abbrev pub zeros : Vec3
zeros = vec 0f 0f 0f

-- against the light, which travels along z
abbrev pub backwards : Vec3
backwards = vec 0f 0f (neg 1f)

unfoldable pub ray_of : Float → Float → Float → Float → Float → Float → Ray
ray_of ox oy oz dx dy dz = record { origin = vec ox oy oz; direction = vec dx dy dz }

abbrev pub no_ray : Ray
no_ray = record { origin = zeros; direction = zeros }

unfoldable pub dot_of : Vec3 → Vec3 → Float
dot_of a b = a.x *₆₄ b.x +₆₄ a.y *₆₄ b.y +₆₄ a.z *₆₄ b.z

abbrev pub squared_length : Vec3 → Float
squared_length a = dot_of a a

unfoldable pub vector_length : Vec3 → Float
vector_length a = root (squared_length a)

unfoldable pub over_of : Vec3 → Float → Vec3
over_of a s = vec (a.x /₆₄ s) (a.y /₆₄ s) (a.z /₆₄ s)

-- how far (x, y) is from the axis
abbrev pub distance : Float → Float → Float
distance x y = root (x *₆₄ x +₆₄ y *₆₄ y)

-- the point at t: per component, origin + t · direction, the product rounded first
unfoldable pub point_at : Ray → Float → Vec3
point_at ray t = vec
    (ray.origin.x +₆₄ t *₆₄ ray.direction.x)
    (ray.origin.y +₆₄ t *₆₄ ray.direction.y)
    (ray.origin.z +₆₄ t *₆₄ ray.direction.z)

unfoldable pub all_finite : Vec3 → Bool
all_finite a = finite a.x && finite a.y && finite a.z

unfoldable pub ray_finite : Ray → Bool
ray_finite ray = all_finite ray.origin && all_finite ray.direction

abbrev pub meridians : Float → Float → Meridians
meridians x y = record { x = x; y = y }

abbrev pub no_meridians : Meridians
no_meridians = meridians 0f 0f

unfoldable pub both_finite : Meridians → Bool
both_finite m = finite m.x && finite m.y

abbrev pub landing : Float → Vec3 → Landing
landing t p = record { t = t; point = p }

abbrev pub no_landing : Landing
no_landing = landing 0f zeros

unfoldable pub landing_finite : Landing → Bool
landing_finite l = finite l.t && all_finite l.point

abbrev pub no_hit : HitRecord
no_hit = record { t = 0f; point = zeros; normal = zeros; front = false }

unfoldable pub hit_finite : HitRecord → Bool
hit_finite h = finite h.t && all_finite h.point && all_finite h.normal

-- the coefficients that there are: slots past the count are not read
abbrev pub terms : Coefficients → List Float
terms a = take a.count a.values

abbrev pub no_coefficients : Coefficients
no_coefficients = record { count = 0; values = 0f ∷ 0f ∷ 0f ∷ 0f ∷ 0f ∷ 0f ∷ 0f ∷ 0f ∷ [] }

abbrev pub polynomial : Coefficients → Coefficients → Polynomial
polynomial even odd = record { even = even; odd = odd }

abbrev pub no_polynomial : Polynomial
no_polynomial = polynomial no_coefficients no_coefficients

unfoldable pub every_finite : List Float → Bool
every_finite [] = true
every_finite (x ∷ l) = finite x && every_finite l

unfoldable pub coefficients_good : Coefficients → Bool
coefficients_good a = leb a.count 8 && every_finite (terms a)

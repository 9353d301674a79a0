-- How a kind is met, by the code's own families, that its limit goes by the kind alone, and what bounds it. Assumes
-- nothing.
use Prim.Native.Nat.{ℕ, ◌<◌, ◌≤◌}
use mathlib.Core.Path.{◌≡◌, refl}
use mathlib.Core.Bool.{true, false}
use lib.Dec.{lit≤}
use lib.Ieee.{Float}
use Rattle.surfaces.specs.Surface.{way_of, limit_by, limit_of}
use Rattle.surfaces.specs.Parts.{shape_of, family_of, way_as}
use Rattle.surfaces.specs.declared.types.Polynomial.{Polynomial}
use Rattle.surfaces.specs.declared.newton.Profile.{Profile}
use Rattle.surfaces.specs.declared.newton.Profile.TheVariants as profile
use Rattle.surfaces.specs.declared.surface.Kind.{Kind}
use Rattle.surfaces.specs.declared.surface.Kind.TheVariants.{Conic, Asphere, Biconic, Toroid}
use Rattle.surfaces.specs.declared.surface.Family.{Family}
use Rattle.surfaces.specs.declared.surface.Family.TheVariants as family
use Rattle.surfaces.specs.declared.surface.Surface.{Surface}

pub family_way : (k : Kind) (s : Surface) → way_of k s ≡ way_as (family_of k) s
family_way (Conic c k) s = refl
family_way (Asphere c k false) s = refl
family_way (Asphere c k true) s = refl
family_way (Biconic cx kx cy ky) s = refl
family_way (Toroid rx cy ky) s = refl

pub kind_limit : (k : Kind) (s : Surface) → limit_of k ≡ limit_by (way_of k s)
unfolding limit_of
kind_limit (Conic c k) s = refl
kind_limit (Asphere c k false) s = refl
kind_limit (Asphere c k true) s = refl
kind_limit (Biconic cx kx cy ky) s = refl
kind_limit (Toroid rx cy ky) s = refl

-- a pass is allowed, and 35 at most
abbrev pub Bounds : ℕ → Type 0
Bounds n = (0 < n) × (n ≤ 35)

pub profile_bounds : (q : Profile) (a : Polynomial) (semi : Float) → Bounds (shape_of q a semi).limit
profile_bounds (profile.Asphere b false) a semi = (lit≤ tt, lit≤ tt)
profile_bounds (profile.Asphere b true) a semi = (lit≤ tt, lit≤ tt)
profile_bounds (profile.Biconic b) a semi = (lit≤ tt, lit≤ tt)
profile_bounds (profile.Toroid t) a semi = (lit≤ tt, lit≤ tt)

pub family_bounds : (f : Family) (s : Surface) → Bounds (limit_by (way_as f s))
family_bounds (family.Conic b) s = (lit≤ tt, lit≤ tt)
family_bounds (family.Newton q) s = profile_bounds q s.polynomial s.semi

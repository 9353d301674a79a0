-- Reflection and refraction go on from the unit vectors of ray and normal. Assumes nothing.
use Rattle.std.specs.Prelude.{if◌then◌else◌}
use mathlib.Core.Path.{◌≡◌, refl}
use mathlib.Core.Bool.{Bool, true, false, not, ◌&&◌, ◌||◌}
use lib.Ieee.{Float}
use lib.Ieee.Scale.{finite}
use Rattle.numbers.specs.Arithmetic.{◌/₆₄◌, ◌<₆₄◌, ◌≤₆₄◌, 0f, 1e-30}
use Rattle.numbers.specs.Root.{root}
use Rattle.surfaces.specs.Types.{zeros, all_finite, squared_length, over_of}
use Rattle.surfaces.specs.Refusal.{Told, plain, gives, refused, after, no_direction}
use Rattle.surfaces.specs.Snell.{mirrored, reflected, bent, refracted}
use Rattle.surfaces.specs.Parts.{units_of}
use Rattle.surfaces.specs.declared.types.Vec3.{Vec3}
use Rattle.surfaces.proofs.Refusals.{refusals}

module _ {A : Type 0} (none u : A) (f : A → Told Vec3) where
  abbrev units : Bool → Bool → Told A
  units a b = if not a then refused none (plain 4) else if b then refused none (plain 4) else gives u

  -- two tests, then f
  tested : (a b : Bool) →
      (if not a then no_direction 4 else if b then no_direction 4 else f u) ≡ after zeros (units a b) f
  tested false b = refl
  tested true true = refl
  tested true false = refl

  -- with others among them, that refuse with the same
  among : (a b m n x y : Bool) →
      (if not (a && m && n) then no_direction 4 else
      if x || y then no_direction 4 else
      if b then no_direction 4 else f u)
      ≡ (if not (m && n) || x || y then no_direction 4 else after zeros (units a b) f)
  among false b false n x y = refl
  among false b true false x y = refl
  among false b true true true y = refl
  among false b true true false true = refl
  among false b true true false false = refl
  among true b false n x y = refl
  among true b true false x y = refl
  among true b true true true y = refl
  among true b true true false true = refl
  among true true true true false false = refl
  among true false true true false false = refl

pub reflected_lem : (i n : Vec3) → reflected i n ≡ after zeros (units_of i n) (λ u. gives (mirrored u.0 u.1))
unfolding reflected units_of
reflected_lem i n =
    tested (zeros, zeros) (over_of i (root (squared_length i)), over_of n (root (squared_length n)))
    (λ u. gives (mirrored u.0 u.1)) (all_finite i && all_finite n)
    ((squared_length i <₆₄ 1e-30) || (squared_length n <₆₄ 1e-30))

pub refracted_lem : (i n : Vec3) (n1 n2 : Float) →
    refracted i n n1 n2 ≡
    (if not (finite n1 && finite n2) || (n1 ≤₆₄ 0f) || (n2 ≤₆₄ 0f) then no_direction 4 else
    after zeros (units_of i n) (λ u. bent u.0 u.1 (n1 /₆₄ n2)))
unfolding refracted units_of
refracted_lem i n n1 n2 =
    among (zeros, zeros) (over_of i (root (squared_length i)), over_of n (root (squared_length n)))
    (λ u. bent u.0 u.1 (n1 /₆₄ n2)) (all_finite i && all_finite n)
    ((squared_length i <₆₄ 1e-30) || (squared_length n <₆₄ 1e-30)) (finite n1) (finite n2) (n1 ≤₆₄ 0f) (n2 ≤₆₄ 0f)

pub ruleset unit = (refusals, reflected_lem, refracted_lem)

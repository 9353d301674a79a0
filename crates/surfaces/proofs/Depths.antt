-- The sags and slopes that the parts of the code speak of are the rules' own. Assumes nothing.
use Rattle.numbers.proofs.Literals.{literals}
use Rattle.std.specs.Prelude.{if◌then◌else◌}
use mathlib.Core.Path.{◌≡◌, refl, sym, ◌∙◌}
use mathlib.Core.Bool.{Bool, true, false, not, ◌&&◌, ◌||◌}
use lib.Ieee.{Float}
use lib.Ieee.Scale.{finite}
use Rattle.numbers.specs.Arithmetic.{◌+₆₄◌, ◌-₆₄◌, ◌*₆₄◌, ◌/₆₄◌, ◌<₆₄◌, ◌≤₆₄◌, 0f, 1f, 2f, 1e-15}
use Rattle.numbers.specs.Basic.{magnitude, larger}
use Rattle.surfaces.specs.Types.{terms}
use Rattle.surfaces.specs.Refusal.{Told, plain, gives, refused, done, after, no_number}
use Rattle.surfaces.specs.Conic.{sign_of}
use Rattle.surfaces.specs.Sags.{edge_root}
use Rattle.surfaces.specs.Asphere.{power_sum, slope_sum, base_sag, base_slope, even_sag, even_slope, odd_sag}
use Rattle.surfaces.specs.Asphere.{odd_base_slope, odd_slope}
use Rattle.surfaces.specs.Biconic.{numerator_of, biconic_radicand, biconic_sag, base_curve_radicand, base_curve_sag}
use Rattle.surfaces.specs.Biconic.{circle_sag, toroid_sag}
use Rattle.surfaces.specs.Parts.{depths, no_depth, sag_of, base_root, base_sag_from, base_slope_from}
use Rattle.surfaces.specs.Parts.{even_depth, even_slope_from, odd_depth, odd_base_slope_from, odd_slope_from}
use Rattle.surfaces.specs.Parts.{biconic_depth, circle_depth, toroid_depth, shape_of, depth_of}
use Rattle.surfaces.specs.declared.types.Vec3.{Vec3}
use Rattle.surfaces.specs.declared.types.Coefficients.{Coefficients}
use Rattle.surfaces.specs.declared.types.Polynomial.{Polynomial}
use Rattle.surfaces.specs.declared.sags.Depth.{Depth}
use Rattle.surfaces.specs.declared.newton.Profile.{Profile}
use Rattle.surfaces.specs.declared.newton.Profile.TheVariants.{Asphere, Biconic, Toroid}

-- what follows an answer that itself followed one
follows : {A B C : Type 0} (x : B) (y : C) (t : Told A) (f : A → Told B) (g : B → Told C) →
    after y (after x t f) g ≡ after y t (λ a. after y (f a) g)
follows x y t f g = by (done t) refl
  where
    by : (d : Bool) → done t ≡ d →
        after y (if d then f t.value else refused x t.line) g ≡
        (if d then after y (f t.value) g else refused y t.line)
    by true e = refl
    by false e = rw e

-- a base that is flat has the root 1, the sag 0 and the slope 0; another goes on from its root
sag_from : (flat : Bool) (e : Told Float) (q f : Float → Float) →
    after 0f (if flat then gives 1f else e) (λ s. gives (f (if flat then 0f else q s))) ≡
    after 0f (if flat then gives 0f else after 0f e (λ s. gives (q s))) (λ base. gives (f base))
sag_from true e q f = refl
sag_from false e q f = sym (follows 0f 0f e (λ s. gives (q s)) (λ base. gives (f base)))

slope_from : (flat : Bool) (e : Told Float) (q f : Float → Told Float) →
    after 0f (if flat then gives 1f else e) (λ s. after 0f (if flat then gives 0f else q s) f) ≡
    after 0f (if flat then gives 0f else after 0f e q) f
slope_from true e q f = refl
slope_from false e q f = sym (follows 0f 0f e q f)

base_sag_lem : (c k r2 : Float) (f : Float → Float) →
    after 0f (base_root c k r2) (λ s. gives (f (base_sag_from c r2 s))) ≡
    after 0f (base_sag c k r2) (λ base. gives (f base))
unfolding base_root base_sag_from base_sag
base_sag_lem c k r2 f = sag_from (magnitude c <₆₄ 1e-15) _ (λ s. (c *₆₄ r2) /₆₄ (1f +₆₄ s)) f

-- the slopes of both aspheres, from the base's root
pub even_slope_lem : (c k : Float) (a : Coefficients) (r : Float) →
    even_slope c k a r ≡
    (if not (finite r) || (r <₆₄ 0f) then no_number 2 else after 0f (base_root c k (r *₆₄ r)) (even_slope_from c a r))
unfolding even_slope base_slope base_root even_slope_from base_slope_from
even_slope_lem c k a r =
    rw (slope_from (magnitude c <₆₄ 1e-15) _ (λ s. if s ≤₆₄ 1e-15 then no_number 4 else gives ((c *₆₄ r) /₆₄ s))
    (λ base. gives (base +₆₄ slope_sum (terms a) 2f r (r *₆₄ r))))

pub odd_slope_lem : (c k : Float) (a : Polynomial) (r : Float) →
    odd_slope c k a r ≡ after 0f (base_root c k (r *₆₄ r)) (λ s. gives (odd_slope_from c a r s))
unfolding odd_slope odd_base_slope base_root odd_slope_from odd_base_slope_from
odd_slope_lem c k a r =
    let r2 = r *₆₄ r in
    sym (sag_from (magnitude c <₆₄ 1e-15) _ (λ s. (c *₆₄ r) /₆₄ larger s 1e-15) (λ base.
    base +₆₄ slope_sum (terms a.even) 2f r r2 +₆₄ slope_sum (terms a.odd) 1f 1f r2))

-- the sag of what followed a root
sag_after : (t : Told Float) (f : Float → Told Depth) (g : Float → Told Float) → ((s : Float) → sag_of (f s) ≡ g s) →
    sag_of (after no_depth t f) ≡ after 0f t g
sag_after t f g h = by (done t)
  where
    by : (d : Bool) →
        sag_of (if d then f t.value else refused no_depth t.line) ≡
        (if d then g t.value else refused 0f t.line)
    by true = h t.value
    by false = refl

-- and of what a test refuses
sag_tested : (b : Bool) (x : Told Depth) (y : Told Float) → sag_of x ≡ y →
    sag_of (if b then refused no_depth (plain 2) else x) ≡ (if b then no_number 2 else y)
sag_tested true x y h = refl
sag_tested false x y h = h

pub even_sag_lem : (c k : Float) (a : Coefficients) (r : Float) → sag_of (even_depth c k a r) ≡ even_sag c k a r
unfolding even_depth even_sag
even_sag_lem c k a r =
    let r2 = r *₆₄ r in
    let powers = power_sum (terms a) r2 r2 in
    sag_tested (not (finite r) || (r <₆₄ 0f)) _ _
    (sag_after (base_root c k r2) (λ s. gives (depths (base_sag_from c r2 s +₆₄ powers) s r 0f)) _ (λ s. refl)
    ∙ base_sag_lem c k r2 (λ base. base +₆₄ powers))

pub odd_sag_lem : (c k : Float) (a : Polynomial) (r : Float) → sag_of (odd_depth c k a r) ≡ odd_sag c k a r
unfolding odd_depth odd_sag
odd_sag_lem c k a r =
    let r2 = r *₆₄ r in
    let powers : Float → Float = λ base.
    base +₆₄ power_sum (terms a.even) r2 r2 +₆₄ power_sum (terms a.odd) r r2 in
    sag_tested (not (finite r) || (r <₆₄ 0f)) _ _
    (sag_after (base_root c k r2) (λ s. gives (depths (powers (base_sag_from c r2 s)) s r 0f)) _ (λ s. refl)
    ∙ base_sag_lem c k r2 powers)

pub biconic_sag_lem : (cx kx cy ky x y : Float) → sag_of (biconic_depth cx kx cy ky x y) ≡ biconic_sag cx kx cy ky x y
unfolding biconic_depth biconic_sag
biconic_sag_lem cx kx cy ky x y =
    sag_tested (not (finite x && finite y)) _ _
    (sag_after (edge_root (biconic_radicand cx kx cy ky x y))
    (λ s. gives (depths (numerator_of cx cy x y /₆₄ (1f +₆₄ s)) s (numerator_of cx cy x y) 0f)) _ (λ s. refl))

circle_sag_lem : (rx x term base : Float) → sag_of (circle_depth rx x term base) ≡ circle_sag rx x term
unfolding circle_depth circle_sag
circle_sag_lem rx x term base =
    sag_after (edge_root (term *₆₄ term -₆₄ x *₆₄ x)) (λ s. gives (depths (rx -₆₄ sign_of rx *₆₄ s) s term base)) _
    (λ s. refl)

pub toroid_sag_lem : (rx cy ky x y : Float) → sag_of (toroid_depth rx cy ky x y) ≡ toroid_sag rx cy ky x y
unfolding toroid_depth toroid_sag
toroid_sag_lem rx cy ky x y =
    sag_after (edge_root (base_curve_radicand cy ky y)) (λ b. circle_depth rx x (rx -₆₄ base_curve_sag cy y b) b) _
    (λ b. circle_sag_lem rx x (rx -₆₄ base_curve_sag cy y b) b)

pub sag_there : (q : Profile) (a : Polynomial) (semi r : Float) (p : Vec3) →
    (shape_of q a semi).sag r p ≡ sag_of (depth_of q a r p)
unfolding depth_of
sag_there (Asphere b false) a semi r p = sym (even_sag_lem b.c b.k a.even r)
sag_there (Asphere b true) a semi r p = sym (odd_sag_lem b.c b.k a r)
sag_there (Biconic b) a semi r p = sym (biconic_sag_lem b.x.c b.x.k b.y.c b.y.k p.x p.y)
sag_there (Toroid t) a semi r p = sym (toroid_sag_lem t.rx t.base.c t.base.k p.x p.y)

pub ruleset slopes = (literals, odd_slope_lem)

-- The slopes of a pass: the root and the other number that the sag had at the same point are those that the slopes' own
-- rule finds. Assumes nothing.
use Rattle.surfaces.proofs.Depths.{sag_there}
use Rattle.surfaces.proofs.Refusals.{refusals}
use Rattle.std.specs.Prelude.{if◌then◌else◌}
use mathlib.Core.Path.{◌≡◌, refl, sym, ap, ◌∙◌}
use mathlib.Core.Bool.{Bool, true, false, not, ◌&&◌, ◌||◌, true≢false, false≢true}
use lib.Dec.{eqb}
use lib.Ieee.Fits.{sub-fits}
use lib.Ieee.{binary64, Float, neg}
use lib.Ieee.Scale.{finite}
use Rattle.numbers.specs.Arithmetic.{◌+₆₄◌, ◌-₆₄◌, ◌*₆₄◌, ◌/₆₄◌, ◌<₆₄◌, 0f, 1f}
use Rattle.numbers.specs.Basic.{larger}
use Rattle.numbers.specs.Root.{root}
use Rattle.surfaces.specs.Types.{meridians, no_meridians, terms}
use Rattle.surfaces.specs.Refusal.{Told, plain, gives, refused, done, after}
use Rattle.surfaces.specs.Sags.{radicand_tolerance, edge_root}
use Rattle.surfaces.specs.Asphere.{power_sum, radial_slopes, even_slopes, odd_on_axis, odd_slopes_at, odd_slopes}
use Rattle.surfaces.specs.Conic.{sign_of}
use Rattle.surfaces.specs.Biconic.{numerator_of, biconic_radicand, biconic_slopes_at, biconic_slopes}
use Rattle.surfaces.specs.Biconic.{base_curve_radicand, base_curve_sag, slope_radicand, circle_slopes, toroid_slopes}
use Rattle.surfaces.specs.Parts.{root_again, depths, no_depth, base_root, base_sag_from, even_depth, even_slope_from}
use Rattle.surfaces.specs.Parts.{even_slopes_from, odd_depth, odd_slope_from, odd_slopes_from, biconic_depth}
use Rattle.surfaces.specs.Parts.{biconic_slopes_from, circle_depth, toroid_depth, toroid_slopes_from, shape_of}
use Rattle.surfaces.specs.Parts.{depth_of}
use Rattle.surfaces.specs.Parts.{slopes_from}
use Rattle.surfaces.proofs.Again.{root_again_lem, larger_fits}
use Rattle.surfaces.proofs.Depths.{even_slope_lem, odd_slope_lem}
use Rattle.surfaces.specs.declared.types.Vec3.{Vec3}
use Rattle.surfaces.specs.declared.types.Meridians.{Meridians}
use Rattle.surfaces.specs.declared.types.Coefficients.{Coefficients}
use Rattle.surfaces.specs.declared.types.Polynomial.{Polynomial}
use Rattle.surfaces.specs.declared.sags.Depth.{Depth}
use Rattle.surfaces.specs.declared.newton.Profile.{Profile}
use Rattle.surfaces.specs.declared.newton.Profile.TheVariants.{Asphere, Biconic, Toroid}

-- an answer that came after another: that was an answer too, so that whatever else follows it has its value
record Followed {A B : Type 0} (t : Told A) (f : A → Told B) (v : B) : Type 1 where
  was : done t ≡ true
  gave : f t.value ≡ gives v
  goes : {C : Type 0} (blank : C) (g : A → Told C) → after blank t g ≡ g t.value

followed : {A B : Type 0} (t : Told A) (f : A → Told B) (blank : B) (v : B) (d : Bool) → done t ≡ d →
    (if d then f t.value else refused blank t.line) ≡ gives v → Followed t f v
followed t f blank v true e h = record { was = e; gave = h; goes = λ b g. rw e }
followed t f blank v false e h = absurd (true≢false (sym (ap (λ x. eqb x.line.number 1) h) ∙ e))

-- an answer beyond a test that refuses
tested : {B : Type 0} (b : Bool) (blank : B) (x : Told B) (v : B) →
    (if b then refused blank (plain 2) else x) ≡ gives v → (b ≡ false) × (x ≡ gives v)
tested true blank x v h = absurd (false≢true (ap (λ y. eqb y.line.number 1) h))
tested false blank x v h = (refl, h)

edge_value : (x : Float) (b : Bool) → done (if b then refused 0f (plain 5) else gives (root (larger x 0f))) ≡ true →
    (if b then refused 0f (plain 5) else gives (root (larger x 0f))).value ≡ root (larger x 0f)
edge_value x true h = absurd (false≢true h)
edge_value x false h = refl

edge_root_lem : (x : Float) → done (edge_root x) ≡ true → (edge_root x).value ≡ root (larger x 0f)
unfolding edge_root
edge_root_lem x h = edge_value x (x <₆₄ neg radicand_tolerance) h

slope_again : (cy ky y : Float) →
    root_again (slope_radicand cy ky y) (larger (base_curve_radicand cy ky y) 0f)
    (root (larger (base_curve_radicand cy ky y) 0f)) ≡ root (slope_radicand cy ky y)
unfolding slope_radicand base_curve_radicand
slope_again cy ky y = root_again_lem _ _ (larger_fits _ (sub-fits binary64 _ _)) (larger_fits _ (sub-fits binary64 _ _))

module _ (z s w b : Float) where
  -- a sag that came after its root: its other numbers are that root and what stands beside it
  rooted : (t : Told Float) (sag : Float → Float) (part base : Float) →
      after no_depth t (λ r. gives (depths (sag r) r part base)) ≡ gives (depths z s w b) →
      Followed t (λ r. gives (depths (sag r) r part base)) (depths z s w b) × (t.value ≡ s) × (part ≡ w) × (base ≡ b)
  rooted t sag part base h =
      let f = followed t (λ r. gives (depths (sag r) r part base)) no_depth (depths z s w b) (done t) refl h in
      (f, ap (λ d. d.value.root) f.gave, ap (λ d. d.value.part) f.gave, ap (λ d. d.value.base) f.gave)

  even : (c k : Float) (a : Coefficients) (x y r : Float) → even_depth c k a r ≡ gives (depths z s w b) →
      even_slopes c k a x y r ≡ even_slopes_from c a x y w s
  unfolding even_depth even_slopes even_slopes_from
  even c k a x y r h =
      let r2 = r *₆₄ r in
      let t = tested (not (finite r) || (r <₆₄ 0f)) no_depth _ _ h in
      let f = rooted (base_root c k r2) (λ d. base_sag_from c r2 d +₆₄ power_sum (terms a) r2 r2) r 0f t.1 in
      rw (even_slope_lem c k a r, t.0, f.0.goes 0f (even_slope_from c a r), f.1, ← f.2)

  -- a slope of the base's root never refuses, so that the slopes' own answer is one
  odd : (c k : Float) (a : Polynomial) (x y r : Float) → odd_depth c k a r ≡ gives (depths z s w b) →
      odd_slopes c k a x y r ≡ gives (odd_slopes_from c a x y w s)
  unfolding odd_depth odd_slopes odd_slopes_at odd_slopes_from
  odd c k a x y r h =
      let r2 = r *₆₄ r in
      let t = tested (not (finite r) || (r <₆₄ 0f)) no_depth _ _ h in
      let f = rooted (base_root c k r2)
      (λ d. base_sag_from c r2 d +₆₄ power_sum (terms a.even) r2 r2 +₆₄ power_sum (terms a.odd) r r2) r 0f t.1 in
      rw (odd_slope_lem c k a r, f.0.goes 0f (λ d. gives (odd_slope_from c a r d)), f.1, ← f.2)
      (by (odd_on_axis a r))
    where
      slopes : Meridians
      slopes = let d = odd_slope_from c a r s in radial_slopes (meridians d 0f) d x y r

      by : (t : Bool) → (if t then gives no_meridians else gives slopes) ≡ gives (if t then no_meridians else slopes)
      by true = refl
      by false = refl

  biconic : (cx kx cy ky x y : Float) → biconic_depth cx kx cy ky x y ≡ gives (depths z s w b) →
      biconic_slopes cx kx cy ky x y ≡ biconic_slopes_from cx kx cy ky x y w s
  unfolding biconic_depth biconic_slopes biconic_slopes_from
  biconic cx kx cy ky x y h =
      let num = numerator_of cx cy x y in
      let t = tested (not (finite x && finite y)) no_depth _ _ h in
      let f = rooted (edge_root (biconic_radicand cx kx cy ky x y)) (λ d. num /₆₄ (1f +₆₄ d)) num 0f t.1 in
      rw (f.0.goes no_meridians (biconic_slopes_at cx kx cy ky x y num), f.1, f.2)

  toroid : (rx cy ky x y : Float) → toroid_depth rx cy ky x y ≡ gives (depths z s w b) → toroid_slopes rx cy ky x y ≡
      toroid_slopes_from rx cy ky x y w s b
  unfolding toroid_depth circle_depth toroid_slopes circle_slopes toroid_slopes_from
  toroid rx cy ky x y h =
      let base = edge_root (base_curve_radicand cy ky y) in
      let term = rx -₆₄ base_curve_sag cy y base.value in
      let radicand = term *₆₄ term -₆₄ x *₆₄ x in
      let f = followed base (λ d. circle_depth rx x (rx -₆₄ base_curve_sag cy y d) d) no_depth (depths z s w b)
      (done base) refl h in
      let g = rooted (edge_root radicand) (λ d. rx -₆₄ sign_of rx *₆₄ d) term base.value f.gave in
      rw (
        f.goes no_meridians (λ d. circle_slopes rx cy ky x y (rx -₆₄ base_curve_sag cy y d)),
        ← g.2,
        ← g.1,
        ← g.3,
        edge_root_lem radicand g.0.was,
        root_again_lem radicand (larger radicand 0f) (sub-fits binary64 _ _)
            (larger_fits radicand (sub-fits binary64 _ _)),
        edge_root_lem (base_curve_radicand cy ky y) f.was,
        slope_again cy ky y,
      )

-- the slopes that a pass asks for are those from what the sag had
pub shared : (q : Profile) (a : Polynomial) (semi r : Float) (p : Vec3) (d : Depth) → depth_of q a r p ≡ gives d →
    (shape_of q a semi).slopes r p ≡ slopes_from q a p d
unfolding depth_of slopes_from
shared (Asphere b false) a semi r p d h = even d.sag d.root d.part d.base b.c b.k a.even p.x p.y r h
shared (Asphere b true) a semi r p d h = odd d.sag d.root d.part d.base b.c b.k a p.x p.y r h
shared (Biconic b) a semi r p d h = biconic d.sag d.root d.part d.base b.x.c b.x.k b.y.c b.y.k p.x p.y h
shared (Toroid t) a semi r p d h = toroid d.sag d.root d.part d.base t.rx t.base.c t.base.k p.x p.y h

pub semi_of : (q : Profile) (a : Polynomial) (semi : Float) → (shape_of q a semi).semi ≡ semi
semi_of (Asphere c false) a semi = refl
semi_of (Asphere c true) a semi = refl
semi_of (Biconic c) a semi = refl
semi_of (Toroid c) a semi = refl

-- the second exit's check and the limit go by the kind alone
pub kind_alone : (q : Profile) (a b : Polynomial) (s t : Float) →
    ((shape_of q a s).checks_last ≡ (shape_of q b t).checks_last) × ((shape_of q a s).limit ≡ (shape_of q b t).limit)
kind_alone (Asphere c false) a b s t = (refl, refl)
kind_alone (Asphere c true) a b s t = (refl, refl)
kind_alone (Biconic c) a b s t = (refl, refl)
kind_alone (Toroid c) a b s t = (refl, refl)

pub ruleset passing = (refusals, sag_there, shared, semi_of, kind_alone)

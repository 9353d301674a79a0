-- A conic that is not a plane is met at the first crossing. Assumes nothing.
use Rattle.std.specs.Prelude.{if◌then◌else◌}
use Prim.Native.Nat.{ℕ}
use mathlib.Core.Path.{◌≡◌, refl, sym, ap, ◌∙◌}
use mathlib.Core.Logic.{◌≢◌}
use mathlib.Core.Bool.{Bool, true, false, not, ◌&&◌, true≢false, false≢true}
use mathlib.Core.List.{List, [], ◌∷◌}
use lib.Dec.{T, eqb}
use lib.Ieee.{Float, binary64, fits, neg}
use lib.Ieee.Fits.{div-fits}
use Rattle.numbers.specs.Arithmetic.{◌/₆₄◌, ◌<₆₄◌, one_of, 0f, 1e-7, 1e-15, 1e-30}
use Rattle.numbers.specs.Basic.{magnitude, larger}
use Rattle.numbers.proofs.Choice.{either, by_test, through, both}
use Rattle.numbers.proofs.Lists.{each}
use Rattle.numbers.proofs.Order.{Unsigned, not_itself, one_way, level, raised, raised_fits}
use Rattle.surfaces.proofs.Demand1.{conic_normal_lem, demand_1}
use Rattle.surfaces.specs.Types.{point_at, ray_finite, landing, no_hit, hit_finite}
use Rattle.surfaces.specs.Refusal.{Told, plain, vignetted, gives, refused, done, after, checked9, no_crossing}
use Rattle.surfaces.specs.Conic.{Quadratic, quadratic_of, discriminant_of, q_of, landed_within, near_sag, on_sheet}
use Rattle.surfaces.specs.Conic.{first_on, kept, first_root, second_root, ascending, curved_crossing, conic_crossing}
use Rattle.surfaces.specs.Conic.{conic_normal, conic_finite, normal_at, hit_at, conic_meet, conic_meet_answer}
use Rattle.surfaces.specs.Surface.{turn_answer}
use Rattle.surfaces.specs.Demand1.{Only}
use Rattle.surfaces.specs.FirstCrossing.{RootOf, c_over_q, q_over_a, Candidate, r_at, OnSheet, Crosses, First}
use Rattle.surfaces.specs.FirstCrossing.{Never, ByFirst, meet_at, MetAtFirst, FirstCrossing}
use Rattle.surfaces.specs.declared.types.Vec3.{Vec3}
use Rattle.surfaces.specs.declared.types.Ray.{Ray}
use Rattle.surfaces.specs.declared.types.Landing.{Landing}
use Rattle.surfaces.specs.declared.types.HitRecord.{HitRecord}
use Rattle.surfaces.specs.declared.conic.ConicSurface.{ConicSurface}
use Rattle.surfaces.specs.declared.surface.Surface.{Surface}
use Rattle.surfaces.specs.declared.surface.Boundary.{Boundary}

-- ---- candidates: without a minus sign, and so in one order

root_fits : {e : Quadratic} {raw : Float} → RootOf e raw → T (fits binary64 raw)
root_fits {e} c_over_q = div-fits binary64 e.c (q_of e)
root_fits {e} (q_over_a h) = div-fits binary64 (q_of e) e.a

unsigned : {e : Quadratic} {t : Float} → Candidate e t → Unsigned t
unsigned c = rw c.raised (raised c.raw)

candidate_fits : {e : Quadratic} {t : Float} → Candidate e t → T (fits binary64 t)
candidate_fits c = rw c.raised (raised_fits c.raw (root_fits c.root_of))

only_one : (ray : Ray) (s : ConicSurface) (t u : Float) → First ray s t → First ray s u → t ≡ u
only_one ray s t u f g =
    let c = f.crosses.candidate in
    let d = g.crosses.candidate in
    level (candidate_fits c) (candidate_fits d) (unsigned c) (unsigned d)
    (g.none_smaller t f.crosses) (f.none_smaller u g.crosses)

-- ---- the list of candidates

-- a number of a list
data Has : List Float → Float → Type 0 where
  here : {t : Float} {l : List Float} → Has (t ∷ l) t
  there : {t u : Float} {l : List Float} → Has l u → Has (t ∷ l) u

-- none is smaller than itself or one before it
data Ascends : List Float → Type 0 where
  empty : Ascends []
  from : {t : Float} {l : List Float} → ((u : Float) → Has (t ∷ l) u → (u <₆₄ t) ≡ false) → Ascends l →
      Ascends (t ∷ l)

-- a number, if it counts
abbrev counted : Bool → Float → List Float
counted b t = if b then t ∷ [] else []

nested : (a b : Bool) (t : Float) → (if a then counted b t else []) ≡ counted (a && b) t
nested true b t = refl
nested false b t = refl

none_in : {A : Type 0} {t : Float} → Has [] t → A
none_in = elim [ ]

one_in : (P : Float → Type 0) {x t : Float} → P x → Has (x ∷ []) t → P t
one_in P p here = p
one_in P p (there h) = none_in h

two_in : (P : Float → Type 0) {x y t : Float} → P x → P y → Has (x ∷ y ∷ []) t → P t
two_in P p q here = p
two_in P p q (there h) = one_in P q h

one : {x : Float} → Unsigned x → Ascends (x ∷ [])
one {x} u = from (λ w i. one_in (λ w. (w <₆₄ x) ≡ false) (not_itself u) i) empty

two : {x y : Float} → Unsigned x → Unsigned y → (y <₆₄ x) ≡ false → Ascends (x ∷ y ∷ [])
two {x} u v h = from (λ w i. two_in (λ w. (w <₆₄ x) ≡ false) (not_itself u) h i) (one v)

-- two numbers, each if it counts
module _ (x y : Float) where
  abbrev pair : Bool → Bool → List Float
  pair a b = ascending (counted a x) (counted b y)

  first_in : (a b : Bool) → a ≡ true → Has (pair a b) x
  unfolding ascending
  first_in true true h = by_test (λ l. Has l x) (y <₆₄ x) (y ∷ x ∷ []) (x ∷ y ∷ []) (λ k. there here) (λ k. here)
  first_in true false h = here
  first_in false b h = absurd (false≢true h)

  second_in : (a b : Bool) → b ≡ true → Has (pair a b) y
  unfolding ascending
  second_in true true h = by_test (λ l. Has l y) (y <₆₄ x) (y ∷ x ∷ []) (x ∷ y ∷ []) (λ k. here) (λ k. there here)
  second_in false true h = here
  second_in a false h = absurd (false≢true h)

  only_these : (P : Float → Type 0) (t : Float) (a b : Bool) → (a ≡ true → P x) → (b ≡ true → P y) → Has (pair a b) t →
      P t
  unfolding ascending
  only_these P t true true p q =
      by_test (λ l. Has l t → P t) (y <₆₄ x) (y ∷ x ∷ []) (x ∷ y ∷ [])
      (λ h. two_in P (q refl) (p refl))
      (λ h. two_in P (p refl) (q refl))
  only_these P t true false p q = one_in P (p refl)
  only_these P t false true p q = one_in P (q refl)
  only_these P t false false p q = none_in

  ordered : Unsigned x → Unsigned y → (a b : Bool) → Ascends (pair a b)
  unfolding ascending
  ordered u v true true =
      by_test Ascends (y <₆₄ x) (y ∷ x ∷ []) (x ∷ y ∷ []) (λ h. two v u (one_way v u h)) (λ h. two u v h)
  ordered u v true false = one u
  ordered u v false true = one v
  ordered u v false false = empty

-- ---- the candidates of a quadratic are those of the list

module _ (e : Quadratic) where
  abbrev q : Float
  q = q_of e

  abbrev c/q : Float
  c/q = larger (e.c /₆₄ q) 0f

  abbrev q/a : Float
  q/a = larger (q /₆₄ e.a) 0f

  -- whether each is a candidate
  abbrev has_c/q : Bool
  has_c/q = (1e-30 <₆₄ magnitude q) && (neg 1e-7 <₆₄ e.c /₆₄ q)

  abbrev has_q/a : Bool
  has_q/a = (1e-30 <₆₄ magnitude e.a) && (1e-30 <₆₄ magnitude q) && (neg 1e-7 <₆₄ q /₆₄ e.a)

  abbrev candidates : List Float
  candidates = ascending (first_root q e.c) (second_root q e.a)

  first_listed : first_root q e.c ≡ counted has_c/q c/q
  unfolding first_root kept
  first_listed = nested (1e-30 <₆₄ magnitude q) (neg 1e-7 <₆₄ e.c /₆₄ q) c/q

  second_listed : second_root q e.a ≡ counted has_q/a q/a
  unfolding second_root kept
  second_listed = nested ((1e-30 <₆₄ magnitude e.a) && (1e-30 <₆₄ magnitude q)) (neg 1e-7 <₆₄ q /₆₄ e.a) q/a

  paired : candidates ≡ pair c/q q/a has_c/q has_q/a
  paired = rw (first_listed, second_listed)

  in_order : Ascends candidates
  in_order = rw paired (ordered c/q q/a (raised _) (raised _) has_c/q has_q/a)

  listed : (t : Float) → Candidate e t → Has candidates t
  listed t c = rw (paired, c.raised) (by c.root_of c.above)
    where
      by : {raw : Float} → RootOf e raw → (neg 1e-7 <₆₄ raw) ≡ true → Has (pair c/q q/a has_c/q has_q/a) (larger raw 0f)
      by c_over_q h = first_in c/q q/a has_c/q has_q/a (rw (c.q_counts, h))
      by (q_over_a a) h = second_in c/q q/a has_c/q has_q/a (rw (a, c.q_counts, h))

  module _ (d : (discriminant_of e <₆₄ 0f) ≡ false) where
    candidate : {t : Float} → RootOf e t → (1e-30 <₆₄ magnitude q) ≡ true → (neg 1e-7 <₆₄ t) ≡ true →
        Candidate e (larger t 0f)
    candidate {t} r counts above =
        record { discriminant = d; q_counts = counts; raw = t; root_of = r; above = above; raised = refl }

    of_list : (t : Float) → Has candidates t → Candidate e t
    of_list t h =
        only_these c/q q/a (Candidate e) t has_c/q has_q/a
        (λ f. let (counts, above) = both _ _ f in candidate c_over_q counts above)
        (λ f.
        let (count, above) = both _ _ f in
        let (a, counts) = both _ _ count in
        candidate (q_over_a a) counts above)
        (rw paired at h)

-- ---- the first of a list

-- What is told of the least number with P: `none` if there is no such number.
data Least {A : Type 0} (none : A) (at : Float → A) (P : Float → Type 0) : A → Type 0 where
  nothing : ((u : Float) → P u → ⊥) → Least none at P none
  least : (t : Float) → P t → ((u : Float) → P u → (u <₆₄ t) ≡ false) → Least none at P (at t)

same_least : {A : Type 0} {none : A} {at : Float → A} {P Q : Float → Type 0} {x : A} → ((u : Float) → P u → Q u) →
    ((u : Float) → Q u → P u) → Least none at P x → Least none at Q x
same_least f g (nothing n) = nothing (λ u c. n u (g u c))
same_least f g (least t p n) = least t (f t p) (λ u c. n u (g u c))

least_through : {A B : Type 0} {none : A} {at : Float → A} {P : Float → Type 0} {x : A} (f : A → B) →
    Least none at P x → Least (f none) (λ t. f (at t)) P (f x)
least_through f (nothing n) = nothing n
least_through f (least t p n) = least t p n

module _ (ray : Ray) (s : ConicSurface) where
  -- what is told at t, up to the normal
  abbrev lands_at : Float → Told Landing
  lands_at t = landed_within t (point_at ray t) (r_at ray t) s.semi

  abbrev tested : Float → Bool
  tested t = on_sheet s (point_at ray t) (r_at ray t)

  passes : (t : Float) → OnSheet ray s t → tested t ≡ true
  unfolding near_sag
  passes t o = rw (o.exists, o.near)

  passed : (t : Float) → tested t ≡ true → OnSheet ray s t
  unfolding near_sag
  passed t h = let (exists, near) = both _ _ h in record { exists = exists; near = near }

  find : (l : List Float) → Ascends l →
      Least (no_crossing 6) lands_at (λ u. Has l u × OnSheet ray s u) (first_on ray s l)
  unfolding first_on
  find [] empty = nothing (λ u h. none_in h.0)
  find (t ∷ l) (from f a) =
      by_test (Least (no_crossing 6) lands_at (λ u. Has (t ∷ l) u × OnSheet ray s u)) (tested t) _ (first_on ray s l)
      (λ h. least t (here, passed t h) (λ u c. f u c.0))
      (λ h. same_least (λ u c. (there c.0, c.1)) (λ u c. (behind h c.0 c.1, c.1)) (find l a))
    where
      behind : {u : Float} → tested t ≡ false → Has (t ∷ l) u → OnSheet ray s u → Has l u
      behind h here o = absurd (false≢true (sym h ∙ passes t o))
      behind h (there i) o = i

  crossing : Least (no_crossing 6) lands_at (Crosses ray s) (curved_crossing ray s)
  unfolding curved_crossing
  crossing =
      let e = quadratic_of ray s in
      by_test (Least (no_crossing 6) lands_at (Crosses ray s)) (discriminant_of e <₆₄ 0f) _
      (first_on ray s (candidates e))
      (λ d. nothing (λ u c. true≢false (sym d ∙ c.candidate.discriminant)))
      (λ d.
      same_least
      (λ u c. record { candidate = of_list e d u c.0; on_sheet = c.1 })
      (λ u c. (listed e u c.candidate, c.on_sheet))
      (find (candidates e) (in_order e)))

  crossed : (magnitude s.curvature <₆₄ 1e-15) ≡ false →
      Least (no_crossing 6) lands_at (Crosses ray s) (conic_crossing ray s)
  unfolding conic_crossing
  crossed h = rw h crossing

-- ---- what is told by it

-- a number that an answer from a landing on may have
abbrev later : ℕ → Bool
later n = not (one_of (6 ∷ 7 ∷ []) n)

normal_later : (p : Vec3) (s : ConicSurface) → later (conic_normal p s).line.number ≡ true
unfolding one_of
normal_later p s = (conic_normal_lem p s later (record { by_all = refl })).told

pub turn_later : (s : Surface) (i p : Vec3) (b : Boundary) → later (turn_answer s i p b).line.number ≡ true
unfolding Only one_of
turn_later s i p b =
    each later (1 ∷ 2 ∷ 4 ∷ 5 ∷ 8 ∷ []) (turn_answer s i p b).line.number refl (demand_1.turn s i p b)

not_later : {n : ℕ} → later n ≡ true → (m : ℕ) → later m ≡ false → n ≢ m
not_later h m k e = true≢false (sym h ∙ ap later e ∙ k)

six_not_seven : ◌≢◌ {A = ℕ} 6 7
six_not_seven h = true≢false (ap (eqb 6) h)

module _ {A : Type 0} (ray : Ray) (s : ConicSurface) (blank : A) (t_of : A → Float) where
  without : Never ray s → ByFirst ray s t_of (refused blank (plain 6))
  without n = record {
    missed = ((λ h. n), (λ h. refl));
    beyond = ((λ h. absurd (six_not_seven h)), (λ h. absurd (n h.0 h.1.crosses)));
    with_its_r = λ t f h. absurd (n t f.crosses);
    hit = λ h. absurd (false≢true h);
  }

  module _ (t : Float) (f : First ray s t) where
    beyond : (s.semi <₆₄ r_at ray t) ≡ true → ByFirst ray s t_of (refused blank (vignetted (r_at ray t) s.semi))
    beyond h = record {
      missed = ((λ k. absurd (six_not_seven (sym k))), (λ n. absurd (n t f.crosses)));
      beyond = ((λ k. (t, f, h)), (λ k. refl));
      with_its_r = λ u g k. rw (only_one ray s u t g f);
      hit = λ h. absurd (false≢true h);
    }

    within : (s.semi <₆₄ r_at ray t) ≡ false → (x : Told A) → later x.line.number ≡ true →
        (done x ≡ true → t_of x.value ≡ t) → ByFirst ray s t_of x
    unfolding one_of
    within h x l at =
        let clash : (u : Float) → First ray s u → (s.semi <₆₄ r_at ray u) ≡ true → ⊥ =
        λ u g k. true≢false (sym k ∙ ap (λ v. s.semi <₆₄ r_at ray v) (only_one ray s u t g f) ∙ h) in
        record {
          missed = ((λ k. absurd (not_later l 6 refl k)), (λ n. absurd (n t f.crosses)));
          beyond = ((λ k. absurd (not_later l 7 refl k)), (λ k. absurd (clash k.0 k.1 k.2)));
          with_its_r = λ u g k. absurd (clash u g k);
          hit = λ k. rw (at k) f;
        }

-- a landing, what follows from it, then 9: so answers an intersection, and so does a step of a trace
abbrev pub from_landing : {A B : Type 0} → A → (A → Bool) → (Landing → Told B) → (Landing → B → A) → Told Landing →
    Told A
from_landing blank fine next make x =
    checked9 blank fine (after blank x (λ l. after blank (next l) (λ v. gives (make l v))))

module _ {A B : Type 0} (ray : Ray) (s : ConicSurface) (blank : A) (fine : A → Bool) (t_of : A → Float)
    (next : Landing → Told B) (make : Landing → B → A) (at : (l : Landing) (v : B) → t_of (make l v) ≡ l.t)
    (on : (l : Landing) → later (next l).line.number ≡ true) where
  abbrev tells : Told Landing → Type 0
  tells x = ByFirst ray s t_of (from_landing blank fine next make x)

  told_within : (t : Float) → First ray s t → (s.semi <₆₄ r_at ray t) ≡ false →
      tells (gives (landing t (point_at ray t)))
  unfolding one_of
  told_within t f h =
      let l = landing t (point_at ray t) in
      let w = next l in
      let g = make l w.value in
      let on-first = within ray s blank t_of t f h in
      by_test (λ y. ByFirst ray s t_of (checked9 blank fine y)) (done w) (gives g) (refused blank w.line)
      (λ e.
      either (ByFirst ray s t_of) (not (fine g)) _ _
      (on-first (refused blank (plain 9)) refl (λ k. absurd (false≢true k)))
      (on-first (gives g) refl (λ k. at l w.value)))
      (λ e. rw e (on-first (refused blank w.line) (on l) (λ k. absurd (false≢true (sym e ∙ k)))))

  by_least : {x : Told Landing} → Least (no_crossing 6) (lands_at ray s) (Crosses ray s) x → tells x
  unfolding landed_within
  by_least (nothing n) = without ray s blank t_of n
  by_least (least t c n) =
      let f : First ray s t = record { crosses = c; none_smaller = n } in
      by_test tells (s.semi <₆₄ r_at ray t) _ _ (beyond ray s blank t_of t f) (told_within t f)

  pub told_by_first : (magnitude s.curvature <₆₄ 1e-15) ≡ false → tells (conic_crossing ray s)
  told_by_first c = by_least (crossed ray s c)

-- ---- what the intersection answers

module _ (ray : Ray) (s : ConicSurface) (finite : (ray_finite ray && conic_finite s) ≡ true)
    (semi : (s.semi <₆₄ 0f) ≡ false) (curved : (magnitude s.curvature <₆₄ 1e-15) ≡ false) where
  abbrev normal : Landing → Told Vec3
  normal l = conic_normal l.point s

  abbrev met : Told Landing → Told HitRecord
  met = from_landing no_hit hit_finite normal (hit_at ray)

  behind_the_checks : conic_meet_answer ray s ≡ met (conic_crossing ray s)
  unfolding conic_meet_answer conic_meet normal_at
  behind_the_checks = rw (finite, semi, curved)

  met_at : (t : Float) → met (lands_at ray s t) ≡ meet_at ray s t
  unfolding landed_within meet_at
  met_at t = through met (s.semi <₆₄ r_at ray t) _ _

  abbrev Decided : Told HitRecord → Type 0
  Decided x = Least (refused no_hit (plain 6)) (λ t. met (lands_at ray s t)) (Crosses ray s) x

  decided : Decided (conic_meet_answer ray s)
  decided = rw behind_the_checks (least_through met (crossed ray s curved))

  at_first : {x : Told HitRecord} → Decided x → (t : Float) → First ray s t → x ≡ meet_at ray s t
  at_first (nothing n) t f = absurd (n t f.crosses)
  at_first (least u c n) t f = rw (only_one ray s t u f (record { crosses = c; none_smaller = n })) (met_at u)

  at_none : {x : Told HitRecord} → Decided x → Never ray s → x ≡ refused no_hit (plain 6)
  at_none (nothing n) m = refl
  at_none (least u c n) m = absurd (m u c)

  otherwise : {x : Told HitRecord} → Decided x → x.line.number ≢ 6 →
      (t : Float) × First ray s t × (x ≡ meet_at ray s t)
  otherwise (nothing n) h = absurd (h refl)
  otherwise (least t c n) h = (t, record { crosses = c; none_smaller = n }, met_at t)

  told : ByFirst ray s (λ h. h.t) (conic_meet_answer ray s)
  unfolding hit_at
  told =
      rw behind_the_checks
      (told_by_first ray s no_hit hit_finite (λ h. h.t) normal (hit_at ray) (λ l n. refl)
      (λ l. normal_later l.point s) curved)

  met_at_first : MetAtFirst ray s
  met_at_first = record {
    by_first = told;
    only_one = only_one ray s;
    at_first = at_first decided;
    at_none = at_none decided;
    otherwise = otherwise decided;
  }

pub first_crossing : FirstCrossing
first_crossing = met_at_first

-- The ways out of start and continue, each at what its promise says. Assumes nothing.
use Rattle.std.specs.Prelude.{if◌then◌else◌}
use Prim.Native.Nat.{ℕ, ◌+◌, ◌*◌, ◌≤◌, ◌<◌, zero-le}
use mathlib.Core.Path.{◌≡◌, refl, sym, ◌∙◌, ap}
use mathlib.Core.Logic.{◌≢◌}
use mathlib.Core.List.{List, [], ◌∷◌}
use mathlib.Core.Bool.{Bool, true, false, not, ◌&&◌}
use native.Mathlib.Omega.{arith}
use lib.ListN.{length}
use lib.Dec.{eqb, ltb}
use lib.Ieee.{Float}
use lib.Ieee.Scale.{finite}
use borrow.Author.Tests.{eq-eqb, ne_eqb, lt-ltb, le-ltb, eqb-true, eqb-false, ltb-true, ltb-false}
use Rattle.numbers.specs.Arithmetic.{◌≤₆₄◌, 0f, decimal}
use Rattle.surfaces.specs.Types.{ray_finite}
use Rattle.surfaces.specs.declared.types.Ray.{Ray}
use Rattle.numbers.proofs.Choice.{both}
use Rattle.surfaces.proofs.Chains.{limit_bounds}
use Rattle.recipe.specs.declared.fault.Fault.{Fault}
use Rattle.recipe.specs.declared.fault.Fault.TheVariants.{BadParameter, NegativeSemiDiameter, Singular, Malformed}
use Rattle.recipe.specs.declared.scan.Checked.{Checked}
use Rattle.recipe.specs.declared.scan.Refused.{Refused}
use Rattle.recipe.specs.Fault.{fault_number}
use Rattle.recipe.specs.Scan.{Item, Scan, refused, items, Verdict, failed, notes, nothing, says, check_of, passed}
use Rattle.recipe.specs.Scan.{items_in, sum_limits}
use Rattle.recipe.proofs.Records.{not_1}
use Rattle.recipe.proofs.Notes.{notes_answer, notes_count}
use Rattle.recipe.proofs.Scans.{Sound, scan_sound, scan_few}
use Rattle.trace.specs.declared.refusal.Why.{Why}
use Rattle.trace.specs.declared.refusal.Why.TheVariants as why
use Rattle.trace.specs.declared.state.State.{State}
use Rattle.trace.specs.Run.{Answer}
use Rattle.trace.specs.Leg.{width}
use Rattle.trace.specs.Refusal.{why_number}
use Rattle.trace.specs.State.{Held, held, advance, beam_good, fits_of}
use Rattle.trace.specs.Run.{most_records, Reply, reply, blank, recipe_of, items_of, beam_of, first_state}
use Rattle.trace.specs.Run.{refused_answer, refused_reply, ray_admission, admission, admitted, begun_of, start_at}
use Rattle.trace.specs.Run.{accept, continue_on, continue_of}
use Rattle.trace.specs.Parts.{Ready}
use Rattle.trace.proofs.Fits.{good_beam, fits_fit, few_steps}

-- no refusal is told by 1
pub fault_not_1 : (f : Fault) → fault_number f ≢ 1
fault_not_1 BadParameter e = omega arith
fault_not_1 NegativeSemiDiameter e = omega arith
fault_not_1 Singular e = omega arith
fault_not_1 Malformed e = omega arith

pub why_not_1 : (w : Why) → why_number w ≢ 1
why_not_1 (why.Fault f) e = fault_not_1 f e
why_not_1 why.BufferTooShort e = omega arith
why_not_1 why.StateDoesNotFit e = omega arith

-- whether a room was long enough, by what its test tells
pub too_short : (w : Why) (room count : ℕ) → why_number w ≡ (if ltb room (width * count) then 11 else 1)
    → (why_number w ≡ 11) × (room < width * count)
too_short w room count = by (ltb room (width * count)) refl
  where
    by : (t : Bool) → ltb room (width * count) ≡ t → why_number w ≡ (if t then 11 else 1)
        → (why_number w ≡ 11) × (room < width * count)
    by true t e = (e, ltb-true _ _ t)
    by false t e = absurd (why_not_1 w e)

pub long_enough : (room count : ℕ) → ◌≡◌ {A = ℕ} 1 (if ltb room (width * count) then 11 else 1) → width * count ≤ room
long_enough room count = by (ltb room (width * count)) refl
  where
    by : (t : Bool) → ltb room (width * count) ≡ t → ◌≡◌ {A = ℕ} 1 (if t then 11 else 1) → width * count ≤ room
    by true t e = absurd (omega arith)
    by false t e = ltb-false _ _ t

no_items : {n p : ℕ} {l : List Item} → refused n p ≡ items l → ⊥
no_items e = let z : ◌≡◌ {A = ℕ} 0 1 = cc in omega arith

-- what a check says of the recipe
pub data Finding (w : ℕ) (c : Verdict) : Scan → Type 0 where
  finds_bad : {n p : ℕ} → c.number ≡ n → c.place ≡ p → c.number ≢ 1 → Finding w c (refused n p)
  finds_good : {l : List Item} → c ≡ notes w nothing l → c.number ≡ 1 → c.count ≡ length l → Finding w c (items l)

pub found : (w : ℕ) (c : Verdict) (r : Scan) → Sound r → c ≡ says w nothing r → Finding w c r
found w c (refused n p) h e =
    let number = ap (λ (k : Verdict). k.number) e in
    finds_bad number (ap (λ (k : Verdict). k.place) e) (λ q. not_1 h (sym number ∙ q))
found w c (items l) h e =
    let number = ap (λ (k : Verdict). k.number) e in
    let count = ap (λ (k : Verdict). k.count) e in
    finds_good e (number ∙ (notes_answer w nothing l).0) (omega (arith, count, notes_count w nothing l))

pub finding : (b : List ℕ) (w : ℕ) (c : Verdict) → c ≡ check_of b most_records true w → Finding w c (recipe_of b)
unfolding check_of
finding b w c e = found w c (recipe_of b) (scan_sound true b most_records 0) e

-- what it says by its number, and of the surfaces
module _ {w : ℕ} {c : Verdict} where
  pub found_bad : (r : Scan) → Finding w c r → c.number ≢ 1 → r ≡ refused c.number c.place
  found_bad (refused n p) (finds_bad e f g) h = rw (e, f)
  found_bad (items l) (finds_good e n k) h = absurd (h n)

  pub found_good : (r : Scan) → Finding w c r → c.number ≡ 1 → r ≡ items (items_in r)
  found_good (refused n p) (finds_bad e f g) h = absurd (g h)
  found_good (items l) (finds_good e n k) h = refl

  pub found_items : (r : Scan) → Finding w c r → r ≡ items (items_in r)
      → (c ≡ notes w nothing (items_in r)) × (c.count ≡ length (items_in r))
  found_items (refused n p) f e = absurd (no_items e)
  found_items (items l) (finds_good e n k) _ = (e, k)

-- an answer and the buffer beside it
beside : (z : List Float) (accept : Answer) (n : ℕ) (t : Bool)
    → ◌≡◌ {A = Reply} (record { answer = if t then accept else refused_answer n 0; buffer = z })
    (if t then record { answer = accept; buffer = z } else refused_reply n 0 z)
beside z accept n true = refl
beside z accept n false = refl

begun : (c : Verdict) (r : Scan) → Finding 0 c r → (base : ℕ) (ray : Ray) (index : Float) (z : List Float)
    → record { answer = begun_of c base ray index (length z); buffer = z }
    ≡ admitted r base ray index z (λ l. reply 1 0 (first_state (length l) (beam_of ray index)) z)
unfolding begun_of
begun c (refused n p) (finds_bad e f g) base ray index z = rw (ne_eqb c.number 1 g, e, f)
begun c (items l) (finds_good e n k) base ray index z =
    let a = admission ray index (length z) (length l) in
    let started : Answer = record { number = 1; place = 0; state = first_state (length l) (beam_of ray index) } in
    rw (eq-eqb c.number 1 n, k) (beside z started a (eqb a 1))

pub start_is : (b : List ℕ) (c : Verdict) → c ≡ check_of b most_records true 0
    → (base : ℕ) (ray : Ray) (index : Float) (z y : List Float) (a : Answer) → y ≡ blank z
    → a ≡ begun_of c base ray index (length y) → record { answer = a; buffer = y } ≡ start_at base b ray index z
unfolding start_at
start_is b c e base ray index z y a blanked q =
    rw (q, blanked) (begun c (recipe_of b) (finding b 0 c e) base ray index (blank z))

-- by the result of a check, whose refusal is handed on with its place from `base` on
pub bad_begun : (e : Refused) (base place : ℕ) (ray : Ray) (index : Float) (room : ℕ) → place ≡ base + e.place
    → refused_answer (fault_number e.fault) place ≡ begun_of (failed (fault_number e.fault) e.place) base ray index room
unfolding begun_of
bad_begun e base place ray index room at = rw (ne_eqb (fault_number e.fault) 1 (fault_not_1 e.fault), at)

module _ (b : List ℕ) (base : ℕ) (ray : Ray) (index : Float) (z y : List Float) (blanked : y ≡ blank z) where
  pub start_fails : (e : Refused) → failed (fault_number e.fault) e.place ≡ check_of b most_records true 0
      → (place : ℕ) → place ≡ base + e.place
      → record { answer = refused_answer (fault_number e.fault) place; buffer = y } ≡ start_at base b ray index z
  start_fails e checked place at =
      start_is b _ checked base ray index z y _ blanked (bad_begun e base place ray index (length y) at)

  pub start_begins : (c : Checked) → passed c ≡ check_of b most_records true 0
      → (a : Answer) → a ≡ begun_of (passed c) 0 ray index (length y)
      → record { answer = a; buffer = y } ≡ start_at base b ray index z
  unfolding begun_of
  start_begins c checked a begun = start_is b (passed c) checked base ray index z y a blanked begun

-- an accepted start
pub record Admitted (r : Scan) (ray : Ray) (index : Float) (z : List Float) : Type 0 where
  pub good : r ≡ items (items_in r)
  pub beam : beam_good (beam_of ray index) ≡ true
  pub room : width * length (items_in r) ≤ length z

module _ (ray : Ray) (index : Float) where
  start_good : (ray_finite ray && finite index) ≡ true → (index ≤₆₄ 0f) ≡ false → beam_good (beam_of ray index) ≡ true
  unfolding beam_good decimal
  start_good u v = rw ((both (ray_finite ray) _ u).0, (both (ray_finite ray) _ u).1, v)

  pub ray_good : ray_admission ray index ≡ 1 → beam_good (beam_of ray index) ≡ true
  unfolding ray_admission
  ray_good h = by (ray_finite ray && finite index) refl (index ≤₆₄ 0f) refl h
    where
      by : (u : Bool) → (ray_finite ray && finite index) ≡ u → (v : Bool) → (index ≤₆₄ 0f) ≡ v
          → ◌≡◌ {A = ℕ} (if not u then 2 else if v then 4 else 1) 1 → beam_good (beam_of ray index) ≡ true
      by false a v b h = absurd (omega arith)
      by true a true b h = absurd (omega arith)
      by true a false b h = start_good a b

  pub good_ray : beam_good (beam_of ray index) ≡ true → ray_admission ray index ≡ 1
  unfolding ray_admission
  good_ray b = let g = good_beam (beam_of ray index) b in rw (g.0, g.2.0, g.2.1)

  admission_good : (room count : ℕ) → admission ray index room count ≡ 1
      → (beam_good (beam_of ray index) ≡ true) × (width * count ≤ room)
  unfolding admission
  admission_good room count h = by (eqb (ray_admission ray index) 1) refl (ltb room (width * count)) refl h
    where
      by : (u : Bool) → eqb (ray_admission ray index) 1 ≡ u → (w : Bool) → ltb room (width * count) ≡ w
          → ◌≡◌ {A = ℕ} (if u && w then 11 else ray_admission ray index) 1
          → (beam_good (beam_of ray index) ≡ true) × (width * count ≤ room)
      by true a true b h = absurd (omega arith)
      by true a false b h = (ray_good h, ltb-false _ _ b)
      by false a w b h = absurd (eqb-false _ _ a h)

  good_admission : (room count : ℕ) → beam_good (beam_of ray index) ≡ true → width * count ≤ room
      → admission ray index room count ≡ 1
  unfolding admission
  good_admission room count b h = rw (good_ray b, le-ltb room (width * count) h)

module _ (base : ℕ) (ray : Ray) (index : Float) (z : List Float) where
  admits : (l : List Item) (f : Reply) (t : Bool) → let n = admission ray index (length z) (length l) in
      eqb n 1 ≡ t → (if t then f else refused_reply n 0 z).answer.number ≡ 1 → Admitted (items l) ray index z
  unfolding refused_answer
  admits l f true e h =
      let g = admission_good ray index (length z) (length l) (eqb-true _ _ e) in
      record { good = refl; beam = g.0; room = g.1 }
  admits l f false e h = absurd (eqb-false _ _ e h)

  pub admitted_by : (r : Scan) → Sound r → (f : List Item → Reply) → (admitted r base ray index z f).answer.number ≡ 1
      → Admitted r ray index z
  unfolding refused_answer
  admitted_by (refused n p) s f h = absurd (not_1 s h)
  admitted_by (items l) s f h = admits l (f l) _ refl h

  -- what is accepted, and what is refused, whatever an accepted start leads to
  pub admitted_is : (r : Scan) → Admitted r ray index z → (f : List Item → Reply)
      → admitted r base ray index z f ≡ f (items_in r)
  admitted_is (refused n p) a f = absurd (no_items a.good)
  admitted_is (items l) a f = rw (good_admission ray index (length z) (length l) a.beam a.room)

  alike : (t : Bool) (f g r : Reply) → f.answer.number ≡ 1 → (if t then f else r).answer.number ≢ 1
      → (if t then f else r) ≡ (if t then g else r)
  alike true f g r a h = absurd (h a)
  alike false f g r a h = refl

  pub refused_alike : (r : Scan) (f g : List Item → Reply) → ((l : List Item) → (f l).answer.number ≡ 1)
      → (admitted r base ray index z f).answer.number ≢ 1
      → admitted r base ray index z f ≡ admitted r base ray index z g
  refused_alike (refused n p) f g a h = refl
  refused_alike (items l) f g a h = alike (eqb (admission ray index (length z) (length l)) 1) (f l) (g l) _ (a l) h

-- continue
module _ (b : List ℕ) (s : State) (z : List Float) (k : ℕ) (c : Verdict)
    (e : c ≡ check_of b most_records true s.number) where
  finds : Finding s.number c (recipe_of b)
  finds = finding b s.number c e

  pub on_bad : c.number ≢ 1 → reply c.number c.place s z ≡ continue_of b s z k
  unfolding continue_of
  on_bad h = rw (found_bad (recipe_of b) finds h)

  module _ (h : c.number ≡ 1) where
    abbrev l : List Item
    l = items_of b

    recipe_good : (recipe_of b ≡ items l) × (c ≡ notes s.number nothing l) × (c.count ≡ length l)
    recipe_good =
        let good = found_good (recipe_of b) finds h in
        let noted = found_items (recipe_of b) finds good in
        (good, noted.0, noted.1)

    -- past the recipe's checks
    past : (x : Reply) → x ≡ continue_on (items l) (length b) s z k → x ≡ continue_of b s z k
    unfolding continue_of
    past x q = q ∙ ap (λ (r : Scan). continue_on r (length b) s z k) (sym recipe_good.0)

    pub on_short : length z < width * c.count → reply 11 0 s z ≡ continue_of b s z k
    on_short i = let n = recipe_good.2 in past _ (rw (lt-ltb (length z) (width * length l) (omega arith)))

    module _ (i : width * c.count ≤ length z) where
      room : ltb (length z) (width * length l) ≡ false
      room = let n = recipe_good.2 in le-ltb (length z) (width * length l) (omega arith)

      pub on_unfit : fits_of c (length b) s ≡ false → reply 12 0 s z ≡ continue_of b s z k
      on_unfit q = past _ (rw (room, ← recipe_good.1, q))

      module _ (q : fits_of c (length b) s ≡ true) where
        pub on_run : (h : Held) → h ≡ advance l k (held s z) → accept h ≡ continue_of b s z k
        on_run h w = past _ (rw (room, ← recipe_good.1, q) (ap accept w))

        noted : fits_of (notes s.number nothing l) (length b) s ≡ true
        noted = rw (← recipe_good.1) q

        pub on_ready : Ready b (width * 0 + length z) c.count s
        on_ready =
            record {
              good = recipe_good.0;
              counted = recipe_good.2;
              fits = omega arith;
              fit = fits_fit l (length b) s noted;
            }

        pub on_steps : s.steps ≤ sum_limits l
        on_steps = few_steps l (length b) s noted

-- a recipe's limits are few
sum_few : (l : List Item) → sum_limits l ≤ 35 * length l
unfolding sum_limits
sum_few [] = zero-le
sum_few (i ∷ l) = omega (arith, (limit_bounds i.optic.surface.kind).1, sum_few l)

pub limits_few : (b : List ℕ) → sum_limits (items_of b) ≤ 17920
limits_few b = omega (arith, sum_few (items_of b), scan_few true b most_records 0)

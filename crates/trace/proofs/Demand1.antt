-- Demand 1: which numbers and places each call answers, and what a refused one leaves. Assumes nothing.
use Rattle.std.specs.Prelude.{if◌then◌else◌}
use Prim.Native.Nat.{ℕ, suc, ◌+◌, ◌*◌, ◌≤◌}
use mathlib.Core.Path.{◌≡◌, refl, sym, ◌∙◌, ap, subst}
use mathlib.Core.Logic.{◌≢◌, ◌↔◌, ◌⊎◌, inl, inr}
use mathlib.Core.List.{List, [], ◌∷◌}
use mathlib.Core.Bool.{Bool, true, false, not, ◌&&◌, false≢true}
use native.Mathlib.Omega.{arith}
use native.Mathlib.Nat.{zero-add}
use lib.ListN.{length, drop}
use lib.Dec.{eqb, ltb, leb}
use lib.Ieee.{Float}
use lib.Ieee.Scale.{finite}
use borrow.Author.Tests.{ltb-false, le-ltb}
use Rattle.numbers.specs.Arithmetic.{◌≤₆₄◌, 0f}
use Rattle.surfaces.specs.Types.{ray_finite}
use Rattle.numbers.specs.Arithmetic.{one_of}
use Rattle.surfaces.specs.declared.types.Ray.{Ray}
use Rattle.numbers.proofs.Choice.{either}
use Rattle.numbers.proofs.Lists.{each}
use Rattle.recipe.specs.Scan.{Item, Scan, refused, items, notes, nothing, items_in}
use Rattle.recipe.specs.Source.{source_bytes, source_of}
use Rattle.recipe.proofs.Scans.{Scanned, full, stopped, fails, scanned, Sound, scan_sound}
use Rattle.trace.specs.declared.state.State.{State}
use Rattle.trace.specs.Leg.{width}
use Rattle.trace.specs.State.{held, advance, fits_of}
use Rattle.trace.specs.Run.{most_records, Reply, reply, recipe_of, items_of, blank, refused_answer, refused_reply}
use Rattle.trace.specs.Run.{ray_admission, admission, admitted, start_at, start_of, accept, continue_on}
use Rattle.trace.specs.Run.{continue_of, whole_of}
use Rattle.trace.specs.Wanted.{refused_reach, up_to, reach_on, reach_of}
use Rattle.trace.specs.File.{start_file_of}
use Rattle.trace.specs.Demand1.{GoodUpTo, none, more, Answers, AnswersOne, Blanked, Unchanged, Refused12}
use Rattle.trace.specs.Demand1.{Unfit, Demand1}
use Rattle.trace.proofs.Unfits.{unfit, fits_all}

-- a start's numbers, a continuation's, and those of a question for one surface
abbrev begun : List ℕ
begun = 1 ∷ 2 ∷ 3 ∷ 4 ∷ 10 ∷ 11 ∷ []

abbrev resumed : List ℕ
resumed = 1 ∷ 2 ∷ 3 ∷ 4 ∷ 10 ∷ 11 ∷ 12 ∷ []

abbrev asked : List ℕ
asked = 1 ∷ 2 ∷ 3 ∷ 4 ∷ 10 ∷ []

-- the refused record stands where the good ones before it end
leads : {b : List ℕ} {all : Bool} {left at n p : ℕ} → GoodUpTo b at → Scanned b all left at (refused n p)
    → GoodUpTo b p
leads g (full h) = g
leads g (stopped h e) = g
leads g (fails h e s) = leads (more g e) s

-- the ray's own numbers
abbrev RayNumber : ℕ → Type 0
RayNumber n = one_of (1 ∷ 2 ∷ 4 ∷ []) n ≡ true

ray_number : (ray : Ray) (index : Float) → RayNumber (ray_admission ray index)
unfolding ray_admission one_of
ray_number ray index =
    either RayNumber (not (ray_finite ray && finite index)) _ _ refl (either RayNumber (index ≤₆₄ 0f) _ _ refl refl)

admission_number : (ray : Ray) (index : Float) (room count : ℕ) → one_of begun (admission ray index room count) ≡ true
unfolding admission one_of
admission_number ray index room count =
    let n = ray_admission ray index in
    let Begun : ℕ → Type 0 = λ n. one_of begun n ≡ true in
    either Begun (eqb n 1 && ltb room (width * count)) _ _ refl
    (each (one_of begun) (1 ∷ 2 ∷ 4 ∷ []) n refl (ray_number ray index))

-- a start on the bytes b, whatever an accepted one leads to
module _ (b : List ℕ) (base : ℕ) (ray : Ray) (index : Float) (z : List Float) (f : List Item → Reply)
    (good : (l : List Item) → ((f l).answer.number ≡ 1) × ((f l).answer.place ≡ 0)) where
  abbrev Place : ℕ → Type 0
  Place p = (p ≡ 0) ⊎ ((q : ℕ) × (p ≡ base + q) × GoodUpTo b q)

  abbrev r : Reply
  r = admitted (recipe_of b) base ray index (blank z) f

  number_by : (s : Scan) → Sound s → one_of begun (admitted s base ray index (blank z) f).answer.number ≡ true
  unfolding refused_answer one_of
  number_by (refused n p) h = each (one_of begun) (2 ∷ 3 ∷ 4 ∷ 10 ∷ []) n refl h
  number_by (items l) h =
      let n = admission ray index (length (blank z)) (length l) in
      let Begun : Reply → Type 0 = λ q. one_of begun q.answer.number ≡ true in
      either Begun (eqb n 1) _ _ (rw (good l).0) (admission_number ray index (length (blank z)) (length l))

  number : one_of begun r.answer.number ≡ true
  number = number_by (recipe_of b) (scan_sound true b most_records 0)

  place_by : (s : Scan) → Scanned b true most_records 0 s → Place (admitted s base ray index (blank z) f).answer.place
  unfolding refused_answer
  place_by (refused n p) h = inr (p, refl, leads none h)
  place_by (items l) h =
      let n = admission ray index (length (blank z)) (length l) in
      either (λ (q : Reply). Place q.answer.place) (eqb n 1) _ _ (inl (good l).1) (inl refl)

  place : Place r.answer.place
  place = place_by (recipe_of b) (scanned true b most_records 0)

  refused_by : (s : Scan) → (admitted s base ray index (blank z) f).answer.number ≢ 1
      → Blanked z (admitted s base ray index (blank z) f)
  unfolding refused_answer
  refused_by (refused n p) h = record { buffer = refl; state = refl }
  refused_by (items l) h = by (eqb (admission ray index (length (blank z)) (length l)) 1) h
    where
      by : (t : Bool) → let n = admission ray index (length (blank z)) (length l) in
          (if t then f l else refused_reply n 0 (blank z)).answer.number ≢ 1
          → Blanked z (if t then f l else refused_reply n 0 (blank z))
      by true h = absurd (h (good l).0)
      by false h = record { buffer = refl; state = refl }

  blanked : r.answer.number ≢ 1 → Blanked z r
  blanked = refused_by (recipe_of b)

module _ (b : List ℕ) (ray : Ray) (index : Float) (z : List Float) (f : List Item → Reply)
    (good : (l : List Item) → ((f l).answer.number ≡ 1) × ((f l).answer.place ≡ 0)) where
  -- the place from the recipe's own start
  answers : Answers begun b (admitted (recipe_of b) 0 ray index (blank z) f)
  answers = record { number = number b 0 ray index z f good; place = by (place b 0 ray index z f good) }
    where
      by : {p : ℕ} → (p ≡ 0) ⊎ ((q : ℕ) × (p ≡ 0 + q) × GoodUpTo b q) → GoodUpTo b p
      by (inl e) = subst (λ (p : ℕ). GoodUpTo b p) (sym e) none
      by (inr (q, e, g)) = subst (λ (p : ℕ). GoodUpTo b p) (sym (e ∙ zero-add q)) g

-- a program's file
module _ (f : List ℕ) (z : List Float) where
  abbrev InFile : Reply → Type 0
  InFile r =
      (one_of begun r.answer.number ≡ true)
      × ((r.answer.place ≡ 0) ⊎ ((q : ℕ) × (r.answer.place ≡ source_bytes + q) × GoodUpTo (drop source_bytes f) q))
      × (r.answer.number ≢ 1 → Blanked z r)

  in_file : InFile (start_file_of f z)
  unfolding start_file_of start_at refused_answer one_of
  in_file =
      let s = source_of f in
      either InFile (not (eqb s.number 1)) _ _ (refl, inl refl, λ h. record { buffer = refl; state = refl }) (
        number (drop source_bytes f) source_bytes s.ray s.index z _ (λ l. (refl, refl)),
        place (drop source_bytes f) source_bytes s.ray s.index z _ (λ l. (refl, refl)),
        blanked (drop source_bytes f) source_bytes s.ray s.index z _ (λ l. (refl, refl)),
      )

-- one surface
module _ (b : List ℕ) (ray : Ray) (index : Float) (k : ℕ) where
  -- refused with a number of its own, and no place
  unplaced : (n : ℕ) → one_of asked n ≡ true → AnswersOne b (refused_reach n 0)
  unplaced n h = record { number = h; place = none; refused = λ _. refl }

  one_by : (s : Scan) → Sound s → Scanned b false (suc k) 0 s → AnswersOne b (reach_on s ray index k)
  unfolding one_of
  one_by (refused n p) h d =
      record {
        number = each (one_of asked) (2 ∷ 3 ∷ 4 ∷ 10 ∷ []) n refl h;
        place = leads none d;
        refused = λ _. refl;
      }
  one_by (items l) h d =
      let n = ray_admission ray index in
      either (AnswersOne b) (leb (length l) k) _ _ (unplaced 2 refl)
      (either (AnswersOne b) (eqb n 1) _ _
      (record { number = refl; place = none; refused = λ h. absurd (h refl) })
      (unplaced n (each (one_of asked) (1 ∷ 2 ∷ 4 ∷ []) n refl (ray_number ray index))))

  one : AnswersOne b (reach_of b ray index k)
  unfolding reach_of one_of
  one =
      either (AnswersOne b) (leb most_records k) _ _ (unplaced 2 refl)
      (one_by (up_to b k) (scan_sound false b (suc k) 0) (scanned false b (suc k) 0))

-- a continuation
module _ (b : List ℕ) (s : State) (z : List Float) (allowed : ℕ) where
  abbrev on : Scan → Reply
  on r = continue_on r (length b) s z allowed

  abbrev short : List Item → Bool
  short l = ltb (length z) (width * length l)

  abbrev fit : List Item → Bool
  fit l = fits_of (notes s.number nothing l) (length b) s

  abbrev Told : Reply → Type 0
  Told r = Answers resumed b r × (r.answer.number ≢ 1 → Unchanged s z r)

  told_by : (r : Scan) → Sound r → Scanned b true most_records 0 r → Told (on r)
  unfolding one_of
  told_by (refused n p) h d = (
    record { number = each (one_of resumed) (2 ∷ 3 ∷ 4 ∷ 10 ∷ []) n refl h; place = leads none d },
    λ _. record { state = refl; buffer = refl },
  )
  told_by (items l) h d =
      either Told (short l) _ _ (record { number = refl; place = none }, λ _. record { state = refl; buffer = refl })
      (either Told (not (fit l)) _ _
      (record { number = refl; place = none }, λ _. record { state = refl; buffer = refl })
      (record { number = refl; place = none }, λ h. absurd (h refl)))

  told : Told (continue_of b s z allowed)
  unfolding continue_of
  told = told_by (recipe_of b) (scan_sound true b most_records 0) (scanned true b most_records 0)

  -- what 12 says, by the recipe's surfaces
  gives_12 : (r : Scan) → Sound r → recipe_of b ≡ r → (on r).answer.number ≡ 12 → Refused12 b s z
  unfolding one_of
  gives_12 (refused n p) h e k = absurd (false≢true (rw k at h))
  gives_12 (items l) h e k = by (short l) refl (fit l) refl k
    where
      by : (t : Bool) → short l ≡ t → (u : Bool) → fit l ≡ u
          → (if t then reply 11 0 s z else if not u then reply 12 0 s z else
          accept (advance l allowed (held s z))).answer.number ≡ 12 → Refused12 b s z
      by true t u v k = absurd (omega (arith, k))
      by false t true v k = absurd (omega (arith, k))
      by false t false v k =
          let same : l ≡ items_of b = sym (ap items_in e) in
          record {
            recipe = e ∙ ap items same;
            room = subst (λ (k : List Item). width * length k ≤ length z) same (ltb-false _ _ t);
            state = subst (λ (k : List Item). Unfit k (length b) s) same (unfit l (length b) s v);
          }

  given_12 : Refused12 b s z → (t : Bool) → fit (items_of b) ≡ t → (on (items (items_of b))).answer.number ≡ 12
  given_12 h true e = absurd (fits_all (items_of b) (length b) s e h.state)
  given_12 h false e = rw (le-ltb (length z) (width * length (items_of b)) h.room, e)

  twelve : ((continue_of b s z allowed).answer.number ≡ 12) ↔ Refused12 b s z
  unfolding continue_of
  twelve = (gives_12 (recipe_of b) (scan_sound true b most_records 0) refl, λ h. rw h.recipe (given_12 h _ refl))

pub demand_1 : Demand1
unfolding start_of start_at whole_of
demand_1 = record {
  start = λ b ray index z. answers b ray index z _ (λ l. (refl, refl));
  whole = λ b ray index z. answers b ray index z _ (λ l. (refl, refl));
  resume = λ b s z n. (told b s z n).0;
  reach = one;
  file_number = λ f z. (in_file f z).0;
  file_place = λ f z. (in_file f z).1;
  refused_start = λ b ray index z h. blanked b 0 ray index z _ (λ l. (refl, refl)) h;
  refused_whole = λ b ray index z h. blanked b 0 ray index z _ (λ l. (refl, refl)) h;
  refused_file = λ f z h. (in_file f z).2 h;
  refused_resume = λ b s z n h. (told b s z n).1 h;
  twelve = twelve;
}

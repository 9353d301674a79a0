-- Which states do not fit a recipe: the test says no exactly if one of SCOPE C5's conditions holds. Assumes nothing.
use Rattle.std.specs.Prelude.{if◌then◌else◌}
use Prim.Native.Nat.{ℕ, zero, suc, ◌+◌, ◌≤◌, ◌<◌}
use mathlib.Core.Path.{◌≡◌, refl, sym, ◌∙◌, subst}
use mathlib.Core.Logic.{◌≢◌, ⊎_elim}
use mathlib.Core.List.{List, [], ◌∷◌}
use mathlib.Core.Bool.{Bool, true, false, not, ◌&&◌, ◌||◌, false≢true, true≢false}
use native.Mathlib.Omega.{arith}
use lib.ListN.{length}
use lib.Dec.{eqb, ltb, leb}
use lib.Ieee.Scale.{finite}
use borrow.Author.Tests.{eqb-true, eqb-false, ltb-true, ltb-false, leb-true, leb-false, not-false}
use Rattle.numbers.specs.Arithmetic.{◌≤₆₄◌, 0f}
use Rattle.surfaces.specs.Refusal.{stops}
use Rattle.numbers.specs.Arithmetic.{one_of}
use Rattle.surfaces.specs.Surface.{limit_of}
use Rattle.numbers.proofs.Choice.{both, one_false, or_else}
use Rattle.surfaces.proofs.Chains.{limit_bounds}
use Rattle.numbers.proofs.Lists.{each}
use Rattle.recipe.specs.Scan.{Verdict}
use Rattle.recipe.specs.Scan.{Item, item_at, notes, nothing}
use Rattle.recipe.proofs.Chain.{place_at, place_end}
use Rattle.trace.specs.declared.state.State.{State}
use Rattle.trace.specs.State.{outcome_known, place_fits, passes_fit, beam_good, fits_of}
use Rattle.trace.specs.Parts.{Stands, walking, arrived, stopped, Fit}
use Rattle.trace.specs.Demand1.{Unfit, outcome_unknown, number_not_count, place_not_end, place_not_start}
use Rattle.trace.specs.Demand1.{number_without_record, passes_at_limit, passes_once_ended, steps_above_limits}
use Rattle.trace.specs.Demand1.{ray_not_finite, path_not_finite, index_not_finite, index_not_positive}
use Rattle.trace.proofs.Fits.{good_beam, stops_known, count_is, limits_is, found_is, fits_fit, few_steps}

-- the outcomes that SCOPE C5 names
abbrev pub outcomes : List ℕ
outcomes = 0 ∷ 1 ∷ 2 ∷ 4 ∷ 5 ∷ 6 ∷ 7 ∷ 8 ∷ 9 ∷ []

-- an outcome that is not known is not of the list
not_known : (n : ℕ) → outcome_known n ≡ false → one_of outcomes n ≡ false
unfolding outcome_known one_of
not_known n h = by (one_of outcomes n) refl
  where
    by : (t : Bool) → one_of outcomes n ≡ t → t ≡ false
    by true e = absurd (true≢false (sym (each outcome_known outcomes n refl e) ∙ h))
    by false e = refl

-- the numbers from k on, so many
abbrev from : ℕ → ℕ → List ℕ
from k zero = []
from k (suc n) = k ∷ from (suc k) n

from_has : (k m n : ℕ) → k ≤ n → n < k + m → one_of (from k m) n ≡ true
unfolding one_of
from_has k zero n a b = absurd (omega arith)
from_has k (suc m) n a b = by (eqb n k) refl (λ h. from_has (suc k) m n (omega arith) (omega arith))
  where
    by : (t : Bool) → eqb n k ≡ t → (n ≢ k → one_of (from (suc k) m) n ≡ true) → (t || one_of (from (suc k) m) n) ≡ true
    by true e later = refl
    by false e later = later (eqb-false n k e)

-- a number that stops is of the list
pub stops_listed : (n : ℕ) → stops n ≡ true → one_of outcomes n ≡ true
unfolding stops one_of
stops_listed n h = by (eqb n 2) refl h
  where
    by : (t : Bool) → eqb n 2 ≡ t → (t || (leb 4 n && leb n 9)) ≡ true → one_of outcomes n ≡ true
    by true e h = rw (eqb-true n 2 e)
    by false e h =
        let q = both (leb 4 n) (leb n 9) h in
        let r = leb-true n 9 q.1 in
        let listed = from_has 4 6 n (leb-true 4 n q.0) (omega arith) in
        or_else (eqb n 0) _ (or_else (eqb n 1) _ (or_else (eqb n 2) _ listed))

module _ (l : List Item) (end : ℕ) (s : State) where
  abbrev c : Verdict
  c = notes s.number nothing l

  misplaced : place_fits c end s ≡ false → Unfit l end s
  unfolding place_fits
  misplaced h = by (eqb s.outcome 1) refl h
    where
      at_end : s.outcome ≡ 1 → (t : Bool) → eqb s.number c.count ≡ t → (t && eqb s.place end) ≡ false
          → Unfit l end s
      at_end o true e h = place_not_end o (eqb-false _ _ h)
      at_end o false e h = number_not_count o (λ q. eqb-false _ _ e (q ∙ sym (count_is l end s)))

      at_record : s.outcome ≢ 1 → (t : Bool) → ltb s.number c.count ≡ t
          → (t && eqb s.place c.found) ≡ false → Unfit l end s
      at_record o true e h =
          let n : s.number < length l = subst (λ (k : ℕ). s.number < k) (count_is l end s) (ltb-true _ _ e) in
          place_not_start o
          (λ q. eqb-false _ _ h (q ∙ sym (place_at l end s.number n) ∙ sym (found_is l end s n).0))
      at_record o false e h =
          number_without_record o (subst (λ (k : ℕ). k ≤ s.number) (count_is l end s) (ltb-false _ _ e))

      by : (t : Bool) → eqb s.outcome 1 ≡ t
          → (if t then eqb s.number c.count && eqb s.place end else
          ltb s.number c.count && eqb s.place c.found) ≡ false → Unfit l end s
      by true e h = at_end (eqb-true _ _ e) _ refl h
      by false e h = at_record (eqb-false _ _ e) _ refl h

  too_many_passes : passes_fit c s ≡ false → Unfit l end s
  unfolding passes_fit
  too_many_passes h = by (eqb s.outcome 0) refl h
    where
      walking_on : s.outcome ≡ 0 → c.limit ≤ s.passes → (t : Bool) → ltb s.number (length l) ≡ t → Unfit l end s
      walking_on o h true e =
          let n = ltb-true _ _ e in
          passes_at_limit n (subst (λ (k : ℕ). k ≤ s.passes) (found_is l end s n).1 h)
      walking_on o h false e = number_without_record (λ q. omega (arith, o, q)) (ltb-false _ _ e)

      by : (t : Bool) → eqb s.outcome 0 ≡ t → (if t then ltb s.passes c.limit else eqb s.passes 0) ≡ false
          → Unfit l end s
      by true e h = walking_on (eqb-true _ _ e) (ltb-false _ _ h) _ refl
      by false e h = passes_once_ended (eqb-false _ _ e) (eqb-false _ _ h)

  too_many_steps : leb s.steps c.limits ≡ false → Unfit l end s
  too_many_steps h = steps_above_limits (subst (λ (k : ℕ). k < s.steps) (limits_is l end s) (leb-false _ _ h))

  bad_beam : beam_good s.beam ≡ false → Unfit l end s
  unfolding beam_good
  bad_beam h =
      ⊎_elim
      (λ h.
      ⊎_elim (λ h. ⊎_elim ray_not_finite path_not_finite (one_false _ _ h)) index_not_finite
      (one_false _ (finite s.beam.index) h))
      (λ h. index_not_positive (not-false _ h))
      (one_false _ (not (s.beam.index ≤₆₄ 0f)) h)

  pub unfit : fits_of c end s ≡ false → Unfit l end s
  unfolding fits_of
  unfit h =
      ⊎_elim
      (λ h. ⊎_elim
      (λ h. ⊎_elim
      (λ h. ⊎_elim (λ h. outcome_unknown (not_known s.outcome h)) misplaced (one_false _ _ h))
      too_many_passes (one_false _ (passes_fit c s) h))
      too_many_steps (one_false _ (leb s.steps c.limits) h))
      bad_beam (one_false _ (beam_good s.beam) h)

  module _ (h : fits_of c end s ≡ true) where
    abbrev fit : Fit l end s
    fit = fits_fit l end s h

    listed : Stands l s → one_of outcomes s.outcome ≡ true
    unfolding one_of
    listed (walking o n p) = rw o
    listed (arrived o n p) = rw o
    listed (stopped o n p) = stops_listed s.outcome o

    at_end : Stands l s → s.outcome ≡ 1 → s.number ≡ length l
    at_end (walking o n p) e = absurd (omega (arith, o, e))
    at_end (arrived o n p) e = n
    at_end (stopped o n p) e = absurd ((stops_known s.outcome o).2 e)

    at_record : Stands l s → s.outcome ≢ 1 → s.number < length l
    at_record (walking o n p) e = n
    at_record (arrived o n p) e = absurd (e o)
    at_record (stopped o n p) e = n

    few_passes : Stands l s → s.number < length l → s.passes < limit_of (item_at l s.number).optic.surface.kind
    few_passes (walking o n p) m = p
    few_passes (arrived o n p) m = absurd (omega (arith, n, m))
    few_passes (stopped o n p) m = omega (arith, p, (limit_bounds (item_at l s.number).optic.surface.kind).0)

    no_passes : Stands l s → s.outcome ≢ 0 → s.passes ≡ 0
    no_passes (walking o n p) e = absurd (e o)
    no_passes (arrived o n p) e = p
    no_passes (stopped o n p) e = p

    pub fits_all : Unfit l end s → ⊥
    fits_all (outcome_unknown e) = false≢true (sym e ∙ listed fit.stands)
    fits_all (number_not_count o n) = n (at_end fit.stands o)
    fits_all (place_not_end o p) = p (fit.place ∙ rw (at_end fit.stands o) (place_end l end))
    fits_all (place_not_start o p) = p (fit.place ∙ place_at l end s.number (at_record fit.stands o))
    fits_all (number_without_record o n) = let m = at_record fit.stands o in omega arith
    fits_all (passes_at_limit n p) = let m = few_passes fit.stands n in omega arith
    fits_all (passes_once_ended o p) = p (no_passes fit.stands o)
    fits_all (steps_above_limits n) = let m = few_steps l end s h in omega arith
    fits_all (ray_not_finite e) = false≢true (sym e ∙ (good_beam s.beam fit.beam).0)
    fits_all (path_not_finite e) = false≢true (sym e ∙ (good_beam s.beam fit.beam).1)
    fits_all (index_not_finite e) = false≢true (sym e ∙ (good_beam s.beam fit.beam).2.0)
    fits_all (index_not_positive e) = true≢false (sym e ∙ (good_beam s.beam fit.beam).2.1)

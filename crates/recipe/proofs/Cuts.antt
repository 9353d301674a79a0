-- The first records of a recipe: where the last of them ends, that they are all of the recipe cut there, and those of a
-- good recipe. Assumes nothing.
use Prim.Native.Nat.{ℕ, zero, suc, ◌≤◌}
use native.Mathlib.Omega.{arith}
use mathlib.Core.Path.{◌≡◌, refl, subst}
use mathlib.Core.Bool.{Bool, true, false}
use mathlib.Core.List.{List, [], ◌∷◌}
use lib.ListN.{length, take}
use lib.Seq.{length-take-le, take-length}
use Rattle.recipe.specs.Scan.{Item, items, scan, item_at}
use Rattle.recipe.proofs.Records.{good_inside}
use Rattle.recipe.proofs.Scans.{Scanned, over, enough, passes, scanned, scan_end, scan_record}
use Rattle.recipe.proofs.Length.{good_take}
use Rattle.recipe.proofs.Chain.{Chain, stop, link}

-- where surfaces from a place on end
unfoldable pub end_from : ℕ → List Item → ℕ
end_from at [] = at
end_from at (i ∷ l) = end_from i.next l

pub end_last : (at : ℕ) (l : List Item) (k : ℕ) → length l ≡ suc k → end_from at l ≡ (item_at l k).next
unfolding end_from
end_last at [] k e = absurd (omega arith)
end_last at (i ∷ []) zero e = refl
end_last at (i ∷ j ∷ l) zero e = absurd (omega arith)
end_last at (i ∷ l) (suc k) e = end_last i.next l k (omega arith)

module _ (b : List ℕ) where
  end_bounds : {all : Bool} {left at : ℕ} {l : List Item} → at ≤ length b → Scanned b all left at (items l)
      → (at ≤ end_from at l) × (end_from at l ≤ length b)
  unfolding end_from
  end_bounds h (over k) = (omega arith, h)
  end_bounds h enough = (omega arith, h)
  end_bounds {at = at} h (passes k e s) =
      let i = good_inside b at e in
      let r = end_bounds i.1 s in
      (omega arith, r.1)

  -- where all are asked for they end with the recipe
  end_all : {left at : ℕ} {l : List Item} → at ≤ length b → Scanned b true left at (items l)
      → end_from at l ≡ length b
  unfolding end_from
  end_all h (over k) = omega arith
  end_all h (passes k e s) = end_all (good_inside b _ e).1 s

  chained : {all : Bool} {left at : ℕ} {l : List Item} (n : ℕ) → at ≤ length b → Scanned b all left at (items l)
      → end_from at l ≡ n → Chain (take n b) at l
  unfolding end_from
  chained {at = at} n h (over k) e = stop {at = at} (omega (arith, length-take-le n b (omega arith)))
  chained {at = at} n h enough e = stop {at = at} (omega (arith, length-take-le n b (omega arith)))
  chained {at = at} n h (passes k r s) e =
      let i = good_inside b at r in
      let m = end_bounds i.1 s in
      link (good_take b n at (omega arith) r (omega arith)) (chained n i.1 s e)

  pub cut_chain : (all : Bool) (left : ℕ) (l : List Item) → scan all b left 0 ≡ items l
      → Chain (take (end_from 0 l) b) 0 l
  cut_chain all left l e = chained (end_from 0 l) (omega arith) (rw e at (scanned all b left 0)) refl

  pub cut_within : (all : Bool) (left : ℕ) (l : List Item) → scan all b left 0 ≡ items l → end_from 0 l ≤ length b
  cut_within all left l e = (end_bounds (omega arith) (rw e at (scanned all b left 0))).1

  pub scan_chain : (left at : ℕ) (l : List Item) → at ≤ length b → scan true b left at ≡ items l → Chain b at l
  scan_chain left at l h e =
      let s = rw e at (scanned true b left at) in
      subst (λ (y : List ℕ). Chain y at l) (take-length b) (chained (length b) h s (end_all h s))

  -- the first n of a good recipe's
  first_of : {left at : ℕ} {l : List Item} (n : ℕ) → Scanned b true left at (items l)
      → scan false b n at ≡ items (take n l)
  unfolding scan
  first_of zero s = refl
  first_of {at = at} (suc n) (over h) = scan_end false b (suc n) at h
  first_of {at = at} (suc n) (passes h e s) = rw (scan_record false b n at h, e, first_of n s)

  pub scan_first : (left n : ℕ) (l : List Item) → scan true b left 0 ≡ items l → scan false b n 0 ≡ items (take n l)
  scan_first left n l e = first_of n (rw e at (scanned true b left 0))

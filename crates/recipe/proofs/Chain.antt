-- The surfaces of a good recipe: each one's record stands where the one before ended. Assumes nothing.
use Prim.Native.Nat.{ℕ, zero, suc, ◌≤◌, ◌<◌}
use native.Mathlib.Omega.{arith}
use native.Mathlib.Nat.{not-suc-le-zero}
use mathlib.Core.Path.{◌≡◌, refl, sym}
use mathlib.Core.Bool.{Bool, true, false}
use mathlib.Core.List.{List, [], ◌∷◌}
use lib.ListN.{length}
use lib.Ieee.Scale.{finite}
use Rattle.numbers.specs.Arithmetic.{◌≤₆₄◌, 0f}
use Rattle.recipe.specs.declared.record.Optic.{Optic}
use Rattle.recipe.specs.Record.{good, record_at}
use Rattle.recipe.specs.Scan.{Item, items, scan, item_at, place_of}
use Rattle.recipe.proofs.Records.{good_inside, good_index}
use Rattle.recipe.proofs.Scans.{scan_end, scan_record}

pub data Chain (b : List ℕ) : ℕ → List Item → Type 0 where
  stop : {at : ℕ} → at ≡ length b → Chain b at []
  link : {at next : ℕ} {o : Optic} {l : List Item} → record_at b at ≡ good o next → Chain b next l
      → Chain b at (record { at = at; next = next; optic = o } ∷ l)

-- they are scanned, whether or not all are asked for
pub chain_scan : (all : Bool) (b : List ℕ) (left : ℕ) {at : ℕ} {l : List Item} → Chain b at l → length l ≤ left
    → scan all b left at ≡ items l
chain_scan all b left {at} (stop e) h = scan_end all b left at (omega arith)
chain_scan all b zero (link e c) h = absurd (not-suc-le-zero h)
chain_scan all b (suc left) {at} (link e c) h =
    let i = good_inside b at e in
    rw (scan_record all b left at (omega arith), e, chain_scan all b left c (omega arith))

pub place_end : (l : List Item) (end : ℕ) → place_of l end (length l) ≡ end
unfolding place_of
place_end [] end = refl
place_end (i ∷ l) end = place_end l end

pub place_at : (l : List Item) (end k : ℕ) → k < length l → place_of l end k ≡ (item_at l k).at
unfolding place_of
place_at [] end k h = absurd (not-suc-le-zero h)
place_at (i ∷ l) end zero h = refl
place_at (i ∷ l) end (suc k) h = place_at l end k (omega arith)

module _ (b : List ℕ) where
  pub place_first : {at : ℕ} {l : List Item} → Chain b at l → place_of l (length b) 0 ≡ at
  unfolding place_of
  place_first (stop e) = sym e
  place_first (link e c) = refl

  pub place_next : {at : ℕ} {l : List Item} → Chain b at l → (k : ℕ) → k < length l
      → (item_at l k).next ≡ place_of l (length b) (suc k)
  unfolding place_of
  place_next (stop e) k h = absurd (not-suc-le-zero h)
  place_next (link e c) zero k = sym (place_first c)
  place_next (link e c) (suc k) m = place_next c k (omega arith)

  pub record_there : {at : ℕ} {l : List Item} → Chain b at l → (k : ℕ) → k < length l
      → record_at b (place_of l (length b) k) ≡ good (item_at l k).optic (item_at l k).next
  unfolding place_of
  record_there (stop e) k h = absurd (not-suc-le-zero h)
  record_there (link e c) zero k = e
  record_there (link e c) (suc k) m = record_there c k (omega arith)

  pub index_there : {at : ℕ} {l : List Item} → Chain b at l → (k : ℕ) → k < length l
      → (finite (item_at l k).optic.index ≡ true) × (((item_at l k).optic.index ≤₆₄ 0f) ≡ false)
  index_there c k h = good_index b _ (record_there c k h)

-- How a scan ends: by the recipe's end or with as many records as were asked for, or at a record that is one too many
-- or bad, before the end. Assumes nothing.
use Rattle.std.specs.Prelude.{if◌then◌else◌}
use Prim.Native.Nat.{ℕ, zero, suc, ◌≤◌, ◌<◌, zero-le}
use native.Mathlib.Omega.{arith}
use mathlib.Core.Path.{◌≡◌, refl}
use mathlib.Core.Bool.{Bool, true, false, and-false}
use mathlib.Core.List.{List, [], ◌∷◌}
use lib.ListN.{length}
use lib.Dec.{ltb}
use borrow.Author.Tests.{lt-ltb, le-ltb, ltb-true, ltb-false}
use Rattle.numbers.specs.Arithmetic.{one_of}
use Rattle.recipe.specs.declared.record.Optic.{Optic}
use Rattle.recipe.specs.Record.{Read, bad, good, record_at}
use Rattle.recipe.specs.Scan.{Item, Scan, refused, items, before, on_read, scan, items_in}
use Rattle.recipe.proofs.Records.{Refuses, bad_number}

pub data Scanned (b : List ℕ) : Bool → ℕ → ℕ → Scan → Type 0 where
  over : {all : Bool} {left at : ℕ} → length b ≤ at → Scanned b all left at (items [])
  full : {at : ℕ} → at < length b → Scanned b true 0 at (refused 10 at)
  enough : {at : ℕ} → Scanned b false 0 at (items [])
  stopped : {all : Bool} {left at n : ℕ} → at < length b → record_at b at ≡ bad n
      → Scanned b all (suc left) at (refused n at)
  fails : {all : Bool} {left at next n p : ℕ} {o : Optic} → at < length b → record_at b at ≡ good o next
      → Scanned b all left next (refused n p) → Scanned b all (suc left) at (refused n p)
  passes : {all : Bool} {left at next : ℕ} {o : Optic} {l : List Item} → at < length b → record_at b at ≡ good o next
      → Scanned b all left next (items l)
      → Scanned b all (suc left) at (items (record { at = at; next = next; optic = o } ∷ l))

pub scanned : (all : Bool) (b : List ℕ) (left at : ℕ) → Scanned b all left at (scan all b left at)
unfolding scan
scanned false b zero at = enough
scanned true b zero at = by (ltb at (length b)) refl
  where
    by : (t : Bool) → ltb at (length b) ≡ t → Scanned b true 0 at (if t then refused 10 at else items [])
    by true e = full (ltb-true at (length b) e)
    by false e = over (ltb-false at (length b) e)
scanned all b (suc left) at = by (ltb at (length b)) refl (record_at b at) refl (scanned all b left)
  where
    rest : {o : Optic} {next : ℕ} → at < length b → record_at b at ≡ good o next → (s : Scan) →
        Scanned b all left next s
        → Scanned b all (suc left) at (before (record { at = at; next = next; optic = o }) s)
    rest h e (refused n p) s = fails h e s
    rest h e (items l) s = passes h e s

    by : (t : Bool) → ltb at (length b) ≡ t → (r : Read) → record_at b at ≡ r
        → ((next : ℕ) → Scanned b all left next (scan all b left next))
        → Scanned b all (suc left) at (if t then on_read r at (scan all b left) else items [])
    by false t r e go = over (ltb-false at (length b) t)
    by true t (bad n) e go = stopped (ltb-true at (length b) t) e
    by true t (good o next) e go = rest (ltb-true at (length b) t) e (scan all b left next) (go next)

-- a refusal's number is that of a record's
abbrev pub Sound : Scan → Type 0
Sound (refused n p) = Refuses n
Sound (items l) = Unit {0}

module _ {b : List ℕ} where
  sound : {all : Bool} {left at : ℕ} {s : Scan} → Scanned b all left at s → Sound s
  unfolding one_of
  sound (over h) = tt
  sound (full h) = refl
  sound enough = tt
  sound (stopped h e) = bad_number b _ e
  sound (fails h e s) = sound s
  sound (passes h e s) = tt

  few : {all : Bool} {left at : ℕ} {s : Scan} → Scanned b all left at s → length (items_in s) ≤ left
  few (over h) = zero-le
  few (full h) = zero-le
  few enough = zero-le
  few (stopped h e) = zero-le
  few (fails h e s) = zero-le
  few (passes h e s) = omega (arith, few s)

  place : {all : Bool} {left at n p : ℕ} → Scanned b all left at (refused n p) → p < length b
  place (full h) = h
  place (stopped h e) = h
  place (fails h e s) = place s

module _ (all : Bool) (b : List ℕ) where
  pub scan_sound : (left at : ℕ) → Sound (scan all b left at)
  scan_sound left at = sound (scanned all b left at)

  pub scan_few : (left at : ℕ) → length (items_in (scan all b left at)) ≤ left
  scan_few left at = few (scanned all b left at)

  pub scan_place : (left at : ℕ) {n p : ℕ} → scan all b left at ≡ refused n p → p < length b
  scan_place left at e = place (rw e at (scanned all b left at))

  pub scan_end : (left at : ℕ) → length b ≤ at → scan all b left at ≡ items []
  unfolding scan
  scan_end zero at h = rw (le-ltb at (length b) h, and-false all)
  scan_end (suc left) at h = rw (le-ltb at (length b) h)

  pub scan_record : (left at : ℕ) → at < length b
      → scan all b (suc left) at ≡ on_read (record_at b at) at (scan all b left)
  unfolding scan
  scan_record left at h = rw (lt-ltb at (length b) h)

pub scan_full : (b : List ℕ) (at : ℕ) → at < length b → scan true b 0 at ≡ refused 10 at
unfolding scan
scan_full b at h = rw (lt-ltb at (length b) h)

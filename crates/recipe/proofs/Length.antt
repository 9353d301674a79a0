-- A good record is read from any bytes that have its end. All records are read within the longest recipe, and so from
-- its first bytes. Assumes nothing.
use Prim.Native.Nat.{ℕ, zero, suc, ◌+◌, ◌*◌, ◌/◌, ◌%◌, ◌≤◌, ◌<◌}
use native.Mathlib.Omega.{arith}
use mathlib.Core.Path.{◌≡◌, refl, sym, ◌∙◌}
use mathlib.Core.Bool.{Bool, true, false, and-false}
use mathlib.Core.List.{List}
use lib.ListN.{length, take}
use lib.Seq.{get_or-take, length-take-le}
use lib.Dec.{eqb, leb, lit≤}
use borrow.Author.Tests.{eqb-true, leb-true, leb-false, le-leb, lt-leb}
use Rattle.recipe.specs.declared.record.Optic.{Optic}
use Rattle.recipe.specs.Endian.{u16_at, u32_at, u64_at, number_at, numbers_at}
use Rattle.recipe.specs.Record.{Read, bad, good, length_at, kind_at, end_at, slot_at, length_fits, formed_at, longest}
use Rattle.recipe.specs.Record.{shaped_at, semi_slot, kind_of, odd_count, even_count, coefficients_at, optic_at}
use Rattle.recipe.specs.Record.{record_at}
use Rattle.recipe.specs.Scan.{on_read, scan}
use Rattle.recipe.specs.Length.{RefusedAlike, TooLong}
use Rattle.recipe.proofs.Shapes.{semi_least, semi_biconic, fits, shape}
use Rattle.recipe.proofs.Records.{good_inside, good_shape}
use Rattle.recipe.proofs.Scans.{scan_full, scan_record}

-- a record whose kind stands past the longest recipe has no shape: it fits no length, or ends past it too
begins_late : (b : List ℕ) (at : ℕ) → longest < at + 4 → shaped_at b at ≡ false
unfolding shaped_at formed_at
begins_late b at h = by (length_fits (kind_at b at % 256) (length_at b at)) refl
  where
    by : (t : Bool) → length_fits (kind_at b at % 256) (length_at b at) ≡ t → shaped_at b at ≡ false
    by true e =
        let f = fits (kind_at b at % 256) (length_at b at) e in
        rw (lt-leb (end_at b at) longest (omega arith)) (simp and-false)
    by false e = rw e (simp and-false)

-- what is read of the first n bytes alone
module _ (b : List ℕ) (n : ℕ) where
  pub u16_take : (at : ℕ) → at + 2 ≤ n → u16_at (take n b) at ≡ u16_at b at
  unfolding u16_at
  u16_take at h = rw (get_or-take n b at 0 (omega arith), get_or-take n b (at + 1) 0 (omega arith))

  u32_take : (at : ℕ) → at + 4 ≤ n → u32_at (take n b) at ≡ u32_at b at
  unfolding u32_at
  u32_take at h = rw (u16_take at (omega arith), u16_take (at + 2) (omega arith))

  number_take : (at : ℕ) → at + 8 ≤ n → number_at (take n b) at ≡ number_at b at
  unfolding number_at u64_at
  number_take at h = rw (u32_take at (omega arith), u32_take (at + 4) (omega arith))

  numbers_take : (at k : ℕ) → at + 8 * k ≤ n → numbers_at (take n b) at k ≡ numbers_at b at k
  unfolding numbers_at
  numbers_take at zero h = refl
  numbers_take at (suc k) h = rw (number_take at (omega arith), numbers_take (at + 8) k (omega arith))

  pub slot_take : (at i : ℕ) → at + 12 + 8 * i ≤ n → slot_at (take n b) at i ≡ slot_at b at i
  unfolding slot_at
  slot_take at i h = number_take (at + 4 + 8 * i) (omega arith)

  kind_take : (at kind : ℕ) → at + 12 + 8 * semi_slot kind ≤ n
      → kind_of kind (slot_at (take n b) at) ≡ kind_of kind (slot_at b at)
  unfolding kind_of
  kind_take at kind h = by (eqb kind 3) refl
    where
      early : (i : ℕ) → i ≤ 4 → slot_at (take n b) at i ≡ slot_at b at i
      early i j = let l = semi_least kind in slot_take at i (omega arith)

      by : (t : Bool) → eqb kind 3 ≡ t → kind_of kind (slot_at (take n b) at) ≡ kind_of kind (slot_at b at)
      by true e =
          let six = semi_biconic kind (eqb-true kind 3 e) in
          rw (early 2 (lit≤ tt), early 3 (lit≤ tt), early 4 (lit≤ tt), slot_take at 5 (omega arith))
      by false e = rw (early 2 (lit≤ tt), early 3 (lit≤ tt), early 4 (lit≤ tt), e)

  module _ (at : ℕ) (k : n ≤ length b) where
    -- a record that ends within them
    shaped_within : at + 4 ≤ n → end_at b at ≤ n → shaped_at (take n b) at ≡ shaped_at b at
    unfolding shaped_at formed_at
    shaped_within l m =
        rw (
          u16_take at (omega arith),
          u16_take (at + 2) (omega arith),
          length-take-le n b k,
          le-leb (at + 4) n l,
          le-leb (end_at b at) n m,
          le-leb (at + 4) (length b) (omega arith),
          le-leb (end_at b at) (length b) (omega arith),
        )

    record_within : shaped_at b at ≡ true → end_at b at ≤ n → record_at (take n b) at ≡ record_at b at
    unfolding record_at optic_at coefficients_at
    record_within e m =
        let f = shape b at e refl refl in
        let kind = kind_at b at % 256 in
        let even = even_count kind (length_at b at) in
        rw (
          shaped_within (omega arith) m,
          e,
          u16_take at (omega arith),
          u16_take (at + 2) (omega arith),
          numbers_take (at + 4) (length_at b at / 8) (omega arith),
          slot_take at (semi_slot kind) (omega arith),
          slot_take at 1 (omega arith),
          slot_take at 0 (omega arith),
          kind_take at kind (omega arith),
          numbers_take (at + 44) even (omega arith),
          numbers_take (at + 44 + 8 * even) (odd_count kind) (omega arith),
        )

    pub good_take : {o : Optic} {next : ℕ} → record_at b at ≡ good o next → next ≤ n
        → record_at (take n b) at ≡ good o next
    good_take e m = let a = good_shape b at e in record_within a.0 (omega (arith, a.1)) ∙ e

    module _ (h : longest < n) where
      shaped_take : shaped_at (take n b) at ≡ shaped_at b at
      unfolding shaped_at
      shaped_take = by (leb (at + 4) n) refl (leb (end_at b at) longest) refl
        where
          by : (t : Bool) → leb (at + 4) n ≡ t → (u : Bool) → leb (end_at b at) longest ≡ u
              → shaped_at (take n b) at ≡ shaped_at b at
          by true e true u =
              let l = leb-true (end_at b at) longest u in
              shaped_within (leb-true (at + 4) n e) (omega arith)
          by true e false u =
              let l = leb-true (at + 4) n e in
              rw (u16_take at (omega arith), u) (simp and-false)
          by false e t u =
              let l = leb-false (at + 4) n e in
              begins_late (take n b) at (omega arith) ∙ sym (begins_late b at (omega arith))

      record_take : record_at (take n b) at ≡ record_at b at
      unfolding record_at
      record_take = by (shaped_at b at) refl
        where
          by : (t : Bool) → shaped_at b at ≡ t → record_at (take n b) at ≡ record_at b at
          by false e = rw (shaped_take, e)
          by true e = let f = shape b at e refl refl in record_within e (omega arith)

module _ (b : List ℕ) (most : ℕ) (long : longest < length b) where
  abbrev front : List ℕ
  front = take (longest + 1) b

  abbrev Alike : ℕ → ℕ → Type 0
  Alike left at = RefusedAlike (scan true b left at) (scan true front left at) longest

  front_length : length front ≡ longest + 1
  front_length = length-take-le (longest + 1) b (omega arith)

  front_record : (left at : ℕ) → at ≤ longest
      → scan true front (suc left) at ≡ on_read (record_at b at) at (scan true front left)
  front_record left at h =
      rw (
        scan_record true front left at (omega (arith, front_length)),
        record_take b (longest + 1) at (omega arith) (omega arith),
      )

  alike : (left at : ℕ) → at ≤ longest → Alike left at
  alike zero at h = record {
    number = 10;
    place = at;
    one = scan_full b at (omega arith);
    other = scan_full front at (omega (arith, front_length));
    within = h;
  }
  alike (suc left) at h = by (record_at b at) refl (alike left)
    where
      by : (r : Read) → record_at b at ≡ r → ((next : ℕ) → next ≤ longest → Alike left next) → Alike (suc left) at
      by (bad n) e go = record {
        number = n;
        place = at;
        one = rw (scan_record true b left at (omega arith), e);
        other = rw (front_record left at h, e);
        within = h;
      }
      by (good o next) e go =
          let q = go next (good_inside b at e).2 in
          record {
            number = q.number;
            place = q.place;
            one = rw (scan_record true b left at (omega arith), e, q.one);
            other = rw (front_record left at h, e, q.other);
            within = q.within;
          }

pub too_long : TooLong
too_long b most h = alike b most h most 0 (omega arith)

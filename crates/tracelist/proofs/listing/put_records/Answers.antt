-- At each turn the lines that are left, behind those before them, come to the same. Assumes nothing.
use Rattle.std.proofs.Common.{◌≡◌, ℕ, zero, suc, ◌+◌, ◌*◌, ◌<◌, ◌≤◌, List, ◌++◌, length, sym, refl, ap, ◌∙◌}
use Rattle.std.proofs.Common.{add-zero, add-one, arith, length-append, rules}
use lib.Ieee.{Float}
use lib.Seq.{take_at, drop_at}
use Rattle.trace.specs.Leg.{width}
use Rattle.tracelist.specs.Listing.{record_line}
use Rattle.tracelist.specs.Parts.{written, record_bytes, row_lines}
use Rattle.tracelist.proofs.Buffers.{both_written}
use Rattle.tracelist.proofs.Widths.{record_short}
use Rattle.tracelist.proofs.listing.put_records.Goals as goal

-- a row z begins with, of the n that are left there
module _ (z row rest : List Float) (cut : z ≡ row ++ rest) (wide : length row ≡ width)
    (n left : ℕ) (less : left + 1 ≡ n) where
  first_left : (number : ℕ) → row_lines number n z ≡ record_line number row ++ row_lines (number + 1) left rest
  unfolding row_lines
  first_left number =
      let e : n ≡ suc left = omega arith in
      rw (e, cut, take_at row rest width wide, drop_at row rest width wide, add-one number)

  rest_long : width * n ≤ length z → width * left ≤ length rest
  rest_long h = let e = ap length cut ∙ length-append row rest in omega arith

  -- its line is put
  module _ (out : List ℕ) (end number : ℕ) (p : ℕ × List ℕ) (put : p ≡ written out end (record_line number row)) where
    one_more : written p.1 p.0 (row_lines (number + 1) left rest) ≡ written out end (row_lines number n z)
    one_more = both_written out end _ _ p _ put refl ∙ ap (written out end) (sym (first_left number))

    within : (size : ℕ) → end + record_bytes * n ≤ size → p.0 + record_bytes * left ≤ size
    unfolding written
    within size b =
        let q : p.0 ≡ end + length (record_line number row) = ap (λ (w : ℕ × List ℕ). w.0) put in
        omega (arith, record_short number row wide)

none_left : (out : List ℕ) (end number n : ℕ) (z : List Float) → n ≡ 0
    → (end, out) ≡ written out end (row_lines number n z)
unfolding written row_lines
none_left out end number n z h = rw (h, add-zero end)

-- no more come where none are left
none : (n size long : ℕ) → (0 < n → long < size) → size ≡ width → width * n ≤ long → n ≡ 0
none zero size long h w l = refl
none (suc n) size long h w l = let k = h (omega arith) in absurd (omega arith)

pub loop-number-init : goal.loop-number-init
loop-number-init c = search rules

pub put_record-end-requires : goal.put_record-end-requires
put_record-end-requires c =
    let s = c.in-Some.ensures.steps in
    let v = c.loop-number.invariant in
    let left = s.0.1 in
    let same = c.loop-number.auto.out in
    (s.0.0.1.1 ∙ v.0, omega (arith, v.2, left, same))

pub loop-number-preserved : goal.loop-number-preserved
loop-number-preserved c =
    let s = c.in-Some.ensures.steps in
    let v = c.loop-number.invariant in
    let wide = s.0.0.1.1 ∙ v.0 in
    let put = rw s.1 at c.put_record-end.ensures in (
      s.0.0.0 ∙ v.0,
      rest_long _ _ _ s.0.0.1.0 wide _ _ s.0.1 v.1,
      within _ _ _ s.0.0.1.0 wide _ _ s.0.1 _ _ _ _ put _ v.2,
      rw s.2 (one_more _ _ _ s.0.0.1.0 wide _ _ s.0.1 _ _ _ _ put ∙ v.3),
    )

pub returns : goal.returns
returns c =
    let s = c.in-None.ensures.steps in
    let v = c.loop-number.invariant in
    none_left _ _ _ c.loop-number.number-iterator.iter.n _ (none _ _ _ (λ p. (s.0 p).1.0) v.0 v.1) ∙ v.3

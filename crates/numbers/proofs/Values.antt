-- The units of a binary64 above zero, from its bit pattern, and its digits, moved up to where a normal number's stand.
-- Assumes nothing.
use Rattle.std.proofs.Common.{◌≡◌, ℕ, suc, ◌+◌, ◌-◌, ◌*◌, ◌/◌, ◌%◌, ◌^◌, ◌<◌, ◌≤◌, Bool, false, ◌&&◌, T, eqb, ltb, leb}
use Rattle.std.proofs.Common.{ℤ, sym, ap, ◌∙◌, subst, inl, inr, mul-le-mul_right, mod-eq_of_lt, div-lt_iff_lt-mul}
use Rattle.std.proofs.Common.{eq-zero-or-pos, mul-lt-mul_of_pos_right, lt_of_not-le, mul_right_comm, mul-div_cancel}
use Rattle.std.proofs.Common.{arith, ltb→lt, pow_pos, pow_mono, pow-add}
use native.Mathlib.Decide.{dec_le}
use lib.Count.{count_leading_zeros, leading_top}
use lib.Ieee.{Float, nan, inf, fin, binary64, up, down, odd, fits, of_bits, to_bits}
use lib.Ieee.Digits.{size-le}
use lib.Ieee.Fits.{down_pos, and_r, kept-lt}
use lib.Ieee.Exact.{HasValue, odd_sign}
use lib.Ieee.Bits.{of_bits-to_bits}
use Rattle.numbers.specs.Root.{units}
use Rattle.numbers.specs.Parts.{pattern_units}
use Rattle.numbers.proofs.Patterns.{normal, subnormal}
use Rattle.numbers.proofs.Scale.{Digits}

pub units_of : (x : Float) (s : Bool) (a : ℕ) → HasValue x s a (2 ^ 1074) → units x ≡ a
unfolding units
units_of nan s a v = absurd v
units_of (inf t) s a v = absurd v
units_of (fin t m e) s a v = ap (λ (y : ℕ). y / down e) v.1 ∙ mul-div_cancel a (down_pos e)

low_units : (b : ℕ) → b < 2 ^ 52 → pattern_units b ≡ b * 1
low_units b h = let z : b / 2 ^ 52 - 1 ≡ 0 = omega arith in rw z (omega arith)

-- The units of a number whose pattern lies below infinity's.
module _ (x : Float) (h : T (fits binary64 x)) where
  read : (q k : ℕ) → of_bits binary64 (to_bits binary64 x) ≡ odd 53 false q k 1074 → units x ≡ q * 2 ^ k
  read q k e =
      units_of x false (q * 2 ^ k)
      (subst (λ (y : Float). HasValue y false (q * 2 ^ k) (2 ^ 1074))
      (sym e ∙ of_bits-to_bits binary64 x h)
      (odd_sign 53 false q k 1074))

  pub units_pattern : to_bits binary64 x < 0x7ff0_0000_0000_0000 → units x ≡ pattern_units (to_bits binary64 x)
  units_pattern u = go (to_bits binary64 x) u read (dec_le (2 ^ 52) (to_bits binary64 x))
    where
      go : (b : ℕ) → b < 0x7ff0_0000_0000_0000 →
          ((q k : ℕ) → of_bits binary64 b ≡ odd 53 false q k 1074 → units x ≡ q * 2 ^ k) → Dec (2 ^ 52 ≤ b) →
          units x ≡ pattern_units b
      go b u r (yes l) =
          let e : b - (b / 2 ^ 52 - 1) * 2 ^ 52 ≡ 2 ^ 52 + b % 2 ^ 52 = omega arith in
          rw e (r (2 ^ 52 + b % 2 ^ 52) (b / 2 ^ 52 - 1) (normal b u l))
      go b u r (no l) = let t = lt_of_not-le l in rw (low_units b t) (r b 0 (subnormal b u t))

-- The pattern of a number above zero is neither 0 nor as high as infinity's.
module _ (m : ℕ) (e : ℤ) (h : T (fits binary64 (fin false (suc m) e))) where
  pub units_lt : suc m * up e * 2 ^ 1074 / down e < 2 ^ 2098
  unfolding fits
  units_lt =
      let others = eqb (suc m % 2) 1 && ltb (suc m) (2 ^ 53) && leb (down e) (2 ^ 1074) in
      let last = ltb (suc m * up e) (2 ^ 1024 * down e) in
      let c = ltb→lt (suc m * up e) (2 ^ 1024 * down e) (and_r others last h) in
      let s = rw (mul_right_comm (2 ^ 1024) (down e) (2 ^ 1074)) at (mul-lt-mul_of_pos_right c (pow_pos 1074)) in
      (div-lt_iff_lt-mul (down_pos e)).1 s

  pub bits_lt : to_bits binary64 (fin false (suc m) e) < 0x7ff0_0000_0000_0000
  unfolding to_bits
  bits_lt =
      let n = suc m * up e * 2 ^ 1074 / down e in
      omega (arith, size-le n 2098 units_lt, kept-lt 53 n)

  zero_bits : of_bits binary64 0 ≡ fin false (suc m) e → ⊥
  unfolding of_bits
  zero_bits p = let z : 0 ≡ suc m = cc in omega arith

  pub bits_pos : 0 < to_bits binary64 (fin false (suc m) e)
  bits_pos = elim (eq-zero-or-pos (to_bits binary64 (fin false (suc m) e))) [
    | inl z ↦ absurd (zero_bits (ap (of_bits binary64) (sym z) ∙ of_bits-to_bits binary64 (fin false (suc m) e) h))
    | inr p ↦ p
  ]

pub join : (i j k : ℕ) → i + j ≡ k → 2 ^ k ≡ 2 ^ i * 2 ^ j
join i j k e = rw (← e) (pow-add 2 i j)

-- The digits of a subnormal number, moved up: z is how many zeros stand above them in 64 places.
pub record Moved (b z : ℕ) : Type 0 where
  pub least : 11 ≤ z
  pub most : z ≤ 63
  pub kept : b * 2 ^ (z - 11) % 2 ^ 64 ≡ b * 2 ^ (z - 11)
  pub digits : Digits b (b * 2 ^ (z - 11)) (52 - (z - 11))

pub moved : (b : ℕ) → 0 < b → b < 2 ^ 52 → Moved b (count_leading_zeros 64 b)
moved b p h = go (count_leading_zeros 64 b) (leading_top 64 b p (omega arith))
  where
    go : (z : ℕ) → (j : ℕ) × (z + suc j ≡ 64) × (2 ^ j ≤ b) × (b < 2 ^ suc j) → Moved b z
    go z (j, e, l, u) =
        let i = z - 11 in
        let jl : j < 52 = lt_of_not-le (λ (g : 52 ≤ j). let q : 2 ^ 52 ≤ 2 ^ j = pow_mono g in omega arith) in
        let s : 2 ^ 52 ≡ 2 ^ j * 2 ^ i = join j i 52 (omega arith) in
        let t : 2 ^ 52 ≡ 2 ^ i * 2 ^ (52 - i) = join i (52 - i) 52 (omega arith) in
        let lo : 2 ^ 52 ≤ b * 2 ^ i = rw s (mul-le-mul_right (2 ^ i) l) in
        let u' : b < 2 * 2 ^ j = omega arith in
        let hi : b * 2 ^ i < 2 ^ 53 = omega (arith, mul-lt-mul_of_pos_right u' (pow_pos i)) in
        let w : b * 1 * 2 ^ 52 ≡ b * 2 ^ i * 2 ^ (52 - i) = omega (arith, ap (λ (y : ℕ). b * y) t) in
        record {
          least = omega arith;
          most = omega arith;
          kept = mod-eq_of_lt (omega arith);
          digits = record { least = lo; most = hi; exponent = omega arith; place = rw (low_units b h) w };
        }

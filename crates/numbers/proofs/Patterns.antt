-- The bit patterns of binary64: which are no NaN's, and which number one below infinity's stands for. Assumes nothing.
use Rattle.std.proofs.Common.{◌≡◌, ℕ, suc, ◌+◌, ◌-◌, ◌*◌, ◌/◌, ◌%◌, ◌^◌, ◌<◌, ◌≤◌, false, not, T, leb, refl, ap, ◌∙◌}
use Rattle.std.proofs.Common.{mod-eq_of_lt, arith, le-ltb, ne_eqb}
use native.Mathlib.Nat.{div-eq_of_lt}
use borrow.Author.Tests.{lt-leb}
use lib.Ieee.{binary64, odd, of_fields, of_bits, nan_bits}
use lib.Ieee.Bits.{nan_bits_above}

-- the sign aside, a pattern above infinity's is a NaN's, and no other is
pub within : (b : ℕ) → b % 2 ^ 63 ≤ 0x7ff0_0000_0000_0000 → T (not (nan_bits binary64 b))
within b h = rw (nan_bits_above binary64 b, le-ltb 0x7ff0_0000_0000_0000 (b % 2 ^ 63) h) tt

of_bits_is : (b : ℕ) → of_bits binary64 b ≡ of_fields binary64 (leb (2 ^ 63) b) (b % 2 ^ 63 / 2 ^ 52) (b % 2 ^ 52)
unfolding of_bits
of_bits_is b = refl

under_ones : (t x : ℕ) → suc x < 2047 → of_fields binary64 false (suc x) t ≡ odd 53 false (2 ^ 52 + t) x 1074
unfolding of_fields
under_ones t x h = rw (ne_eqb (suc x) 2047 (omega arith))

at_zero : (t : ℕ) → of_fields binary64 false 0 t ≡ odd 53 false t 0 1074
unfolding of_fields
at_zero t = refl

module _ (b : ℕ) (h : b < 0x7ff0_0000_0000_0000) where
  plain : of_bits binary64 b ≡ of_fields binary64 false (b / 2 ^ 52) (b % 2 ^ 52)
  plain = of_bits_is b ∙ rw (lt-leb (2 ^ 63) b (omega arith), mod-eq_of_lt {n = b} {m = 2 ^ 63} (omega arith))

  pub normal : 2 ^ 52 ≤ b → of_bits binary64 b ≡ odd 53 false (2 ^ 52 + b % 2 ^ 52) (b / 2 ^ 52 - 1) 1074
  normal l =
      let e : b / 2 ^ 52 ≡ suc (b / 2 ^ 52 - 1) = omega arith in
      plain
      ∙ ap (λ (x : ℕ). of_fields binary64 false x (b % 2 ^ 52)) e
      ∙ under_ones (b % 2 ^ 52) (b / 2 ^ 52 - 1) (omega arith)

  pub subnormal : b < 2 ^ 52 → of_bits binary64 b ≡ odd 53 false b 0 1074
  subnormal l = plain ∙ rw (div-eq_of_lt {n = b} {m = 2 ^ 52} l, mod-eq_of_lt {n = b} {m = 2 ^ 52} l) (at_zero b)

-- the pattern of q * 2 ^ (K - 1074), for a q of 53 digits
pub pattern : (K q : ℕ) → K < 2046 → 2 ^ 52 ≤ q → q < 2 ^ 53 →
    T (not (nan_bits binary64 (K * 2 ^ 52 + q))) × (of_bits binary64 (K * 2 ^ 52 + q) ≡ odd 53 false q K 1074)
pattern K q h lo hi =
    let b = K * 2 ^ 52 + q in
    let b_lt : b < 0x7ff0_0000_0000_0000 = omega arith in
    let d : 2 ^ 52 + b % 2 ^ 52 ≡ q = omega arith in
    let x : b / 2 ^ 52 - 1 ≡ K = omega arith in
    (within b (omega arith), normal b b_lt (omega arith) ∙ rw (d, x))

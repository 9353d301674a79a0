-- What a pattern says of the sign. Assumes nothing.
use Rattle.std.proofs.Common.{◌≡◌, ℕ, zero, suc, ◌+◌, ◌^◌, ◌<◌, true, false, cond, not, T, ℤ, refl, zero-mul, arith}
use native.Mathlib.Nat.{zero-div}
use lib.Ieee.{Float, nan, inf, fin, binary64, size, fits, is_nan, to_bits}
use Rattle.numbers.specs.Basic.{magnitude, negative}
use Rattle.numbers.proofs.Values.{bits_lt}

-- the sign is the pattern's first digit, and the others are the magnitude's
zero_bits : (e : ℤ) → to_bits binary64 (fin false zero e) ≡ 0
unfolding to_bits size
zero_bits e = simp (zero-mul, zero-div)

below : (m : ℕ) (e : ℤ) → T (fits binary64 (fin false m e)) → to_bits binary64 (fin false m e) < 2 ^ 63
below zero e h = omega (arith, zero_bits e)
below (suc m) e h = omega (arith, bits_lt m e h)

lifted : (m : ℕ) (e : ℤ) → to_bits binary64 (fin true m e) ≡ 2 ^ 63 + to_bits binary64 (fin false m e)
unfolding to_bits
lifted m e = omega arith

held_magnitude : (x : Float) → T (fits binary64 x) → T (fits binary64 (magnitude x))
unfolding magnitude fits
held_magnitude nan h = tt
held_magnitude (inf s) h = tt
held_magnitude (fin s zero e) h = h
held_magnitude (fin s (suc m) e) h = h

pub record Signed (x : Float) : Type 0 where
  pub whole : to_bits binary64 x ≡ cond (negative x) (2 ^ 63) 0 + to_bits binary64 (magnitude x)
  pub digits : to_bits binary64 (magnitude x) < 2 ^ 63

pub signed : (x : Float) → T (fits binary64 x) → T (not (is_nan x)) → Signed x
unfolding magnitude negative is_nan to_bits
signed nan h k = absurd k
signed (inf true) h k = record { whole = refl; digits = omega arith }
signed (inf false) h k = record { whole = refl; digits = omega arith }
signed (fin true m e) h k = record { whole = lifted m e; digits = below m e (held_magnitude (fin true m e) h) }
signed (fin false m e) h k = record { whole = omega arith; digits = below m e (held_magnitude (fin false m e) h) }

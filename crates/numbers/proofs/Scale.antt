-- The root of n units, where n * 2 ^ 1074 is m * 2 ^ 52 times an even power of two. Assumes nothing.
use Rattle.std.proofs.Common.{◌≡◌, ℕ, zero, suc, ◌+◌, ◌-◌, ◌*◌, ◌/◌, ◌%◌, ◌^◌, ◌<◌, ◌≤◌, false, not, T, ap, ◌∙◌}
use Rattle.std.proofs.Common.{le_trans, lt_of_lt_of_le, lt_irrefl, mul-le-mul_right, mul-le-mul_left}
use Rattle.std.proofs.Common.{mul-lt-mul_of_pos_right, lt_of_not-le, mul-add, arith, pow_pos, pow_mono, pow-add}
use lib.Ieee.{binary64, size, odd, of_bits, nan_bits}
use lib.Ieee.Digits.{size-lt, size-le}
use Rattle.numbers.specs.Root.{rounded, root_units}
use Rattle.numbers.specs.Parts.{Near, pattern_units}
use Rattle.numbers.proofs.Roots.{near_rounded, long, short}
use Rattle.numbers.proofs.Patterns.{pattern}

module _ (m k : ℕ) (lo : 2 ^ 52 ≤ m) (hi : m < 2 ^ 54) where
  dropped : (size (m * 2 ^ 52 * 2 ^ (2 * k)) + 1) / 2 - 53 ≡ k
  dropped =
      let N = m * 2 ^ 52 * 2 ^ (2 * k) in
      let a : 2 ^ (104 + 2 * k) ≤ N = rw pow-add (mul-le-mul_right (2 ^ (2 * k)) (omega arith)) in
      let b : N < 2 ^ (106 + 2 * k) = rw pow-add (mul-lt-mul_of_pos_right (omega arith) (pow_pos (2 * k))) in
      let few : size N ≤ 106 + 2 * k = size-le N (106 + 2 * k) b in
      let many : 104 + 2 * k < size N =
      lt_of_not-le (λ (g : size N ≤ 104 + 2 * k).
      lt_irrefl N (lt_of_lt_of_le (size-lt N) (le_trans (pow_mono g) a))) in
      omega arith

  root_is : (n q : ℕ) → n * 2 ^ 1074 ≡ m * 2 ^ 52 * 2 ^ (2 * k) → rounded (m * 2 ^ 52 * 2 ^ (2 * k)) k ≡ q →
      odd 53 false q k 1074 ≡ root_units n
  unfolding root_units
  root_is n q e r = rw (e, dropped, r)

-- The pattern of the root, from the whole number q that is nearest to √(m * 2 ^ 52).
module _ (m k q : ℕ) (lo : 2 ^ 52 ≤ m) (hi : m + 2 ≤ 2 ^ 54) (kl : k < 2046) (h : Near (m * 2 ^ 52) q) where
  pub root_odd : (n : ℕ) → n * 2 ^ 1074 ≡ m * 2 ^ 52 * 2 ^ (2 * k) → odd 53 false q k 1074 ≡ root_units n
  root_odd n e = root_is m k lo (omega arith) n q e (near_rounded (m * 2 ^ 52) q k h)

  pub root_bits : (n : ℕ) → n * 2 ^ 1074 ≡ m * 2 ^ 52 * 2 ^ (2 * k) → of_bits binary64 (k * 2 ^ 52 + q) ≡ root_units n
  root_bits n e = (pattern k q kl (long m q h lo hi) (short m q h lo hi)).1 ∙ root_odd n e

  pub no_nan_bits : T (not (nan_bits binary64 (k * 2 ^ 52 + q)))
  no_nan_bits = (pattern k q kl (long m q h lo hi) (short m q h lo hi)).0

-- an odd power of two is twice an even one
power : (p r h : ℕ) → p ≡ 2 * h + r → r < 2 → 2 ^ p ≡ (r + 1) * 2 ^ (2 * h)
power p zero h e l = rw (e, pow-add) (omega arith)
power p (suc zero) h e l = rw (e, pow-add) (omega arith)
power p (suc (suc r)) h e l = omega arith

product : (n m v u a c : ℕ) → n * a ≡ m * (v * u) → n * (a * (a * c)) ≡ m * v * a * (u * c)
product n m v u a c e = let t = ap (λ (x : ℕ). x * (a * c)) e in omega arith

-- a number of n units, whose 53 digits are m, in the form above
even : (n m p : ℕ) → n * 2 ^ 52 ≡ m * 2 ^ p → n * 2 ^ 1074 ≡ m * (p % 2 + 1) * 2 ^ 52 * 2 ^ (2 * (p / 2 + 485))
even n m p e =
    let s : 2 ^ (2 * (p / 2 + 485)) ≡ 2 ^ (2 * (p / 2)) * 2 ^ 970 = rw mul-add (pow-add 2 (2 * (p / 2)) 970) in
    let q = power p (p % 2) (p / 2) (omega arith) (omega arith) in
    rw s (product n m (p % 2 + 1) (2 ^ (2 * (p / 2))) (2 ^ 52) (2 ^ 970) (e ∙ ap (λ (x : ℕ). m * x) q))

at_most_twice : (m p : ℕ) → m * (p % 2) ≤ m * 1
at_most_twice m p = mul-le-mul_left m (omega arith)

-- the 53 digits d of the number whose pattern is b, and their place p
pub record Digits (b d p : ℕ) : Type 0 where
  pub least : 2 ^ 52 ≤ d
  pub most : d < 2 ^ 53
  pub exponent : p < 2098
  pub place : pattern_units b * 2 ^ 52 ≡ d * 2 ^ p

-- the number whose pattern is b, as m * 2 ^ 52 squares of 2 ^ k
pub record Scale (b m k : ℕ) : Type 0 where
  pub low : 2 ^ 52 ≤ m
  pub high : m + 2 ≤ 2 ^ 54
  pub exponent : k < 2046
  pub place : pattern_units b * 2 ^ 1074 ≡ m * 2 ^ 52 * 2 ^ (2 * k)

pub scale : {b d p : ℕ} → Digits b d p → Scale b (d * (p % 2 + 1)) (p / 2 + 485)
scale {b} {d} {p} h =
    let t = at_most_twice d p in
    record {
      low = omega arith;
      high = omega arith;
      exponent = omega arith;
      place = even (pattern_units b) d p h.place;
    }

-- a normal number's pattern, whose exponent's field is e + 1
pub normal_digits : (b e : ℕ) → b / 2 ^ 52 ≡ e + 1 → e < 2046 → Digits b (b - e * 2 ^ 52) (e + 52)
normal_digits b e h l =
    let f : b / 2 ^ 52 - 1 ≡ e = omega arith in
    record { least = omega arith; most = omega arith; exponent = omega arith; place = rw f (lifted (b - e * 2 ^ 52) e) }
  where
    lifted : (m e : ℕ) → m * 2 ^ e * 2 ^ 52 ≡ m * 2 ^ (e + 52)
    lifted m e = rw pow-add (omega arith)

pub normal_scale : (b e : ℕ) → b / 2 ^ 52 ≡ e + 1 → e < 2046 → Scale b ((b - e * 2 ^ 52) * (e % 2 + 1)) (e / 2 + 511)
normal_scale b e h l =
    let r : (e + 52) % 2 ≡ e % 2 = omega arith in
    let s : (e + 52) / 2 + 485 ≡ e / 2 + 511 = omega arith in
    rw (r, s) at (scale (normal_digits b e h l))

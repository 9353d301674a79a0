-- Roots of whole numbers: what `floor_root` and `rounded` are, and how long a root is. Assumes nothing.
use Rattle.std.proofs.Common.{◌≡◌, ℕ, zero, suc, ◌+◌, ◌-◌, ◌*◌, ◌/◌, ◌^◌, ◌<◌, ◌≤◌, Bool, true, false, not, T, leb, ◌∙◌}
use Rattle.std.proofs.Common.{lt_of_lt_of_le, le_of_suc-le-suc, not-suc-le-zero, mul-le-mul, le_antisymm}
use Rattle.std.proofs.Common.{mul-lt-mul_of_pos_right, lt_of_not-le, mul-div_cancel, arith, lit≤, leb→le, pow_pos}
use Rattle.std.proofs.Common.{if◌then◌else◌}
use Prim.Native.Nat.{Ordering}
use Prim.Native.Nat.{compare}
use Prim.Native.Nat.compare
use native.Mathlib.Nat.{pow-le-pow_left}
use native.Mathlib.Decide.{dec_le}
use lib.Dec.{nleb→lt}
use lib.Ieee.{nearest, size}
use lib.Ieee.Digits.{size-lt}
use Rattle.numbers.specs.Root.{root_below, floor_root, rounded, FloorRoot}
use Rattle.numbers.specs.Parts.{Near}

abbrev pub Floor : ℕ → ℕ → Type 0
Floor n r = (r * r ≤ n) × (n < (r + 1) * (r + 1))

below_is : (d n : ℕ) → n < 4 ^ d → Floor n (root_below d n)
unfolding root_below
below_is zero n h = omega arith
below_is (suc d) n h = go (leb (s * s) n) (leb→le (s * s) n) (nleb→lt (s * s) n) (below_is d (n / 4) (omega arith))
  where
    s : ℕ
    s = 2 * root_below d (n / 4) + 1

    go : (b : Bool) → (T b → s * s ≤ n) → (T (not b) → n < s * s) → Floor (n / 4) (root_below d (n / 4)) →
        Floor n (if b then s else (2 * root_below d (n / 4)))
    go true y f h = let l = y tt in omega arith
    go false y f h = let l = f tt in omega arith

pub floor_is : FloorRoot
unfolding floor_root
floor_is n = below_is (size n) n (lt_of_lt_of_le (size-lt n) (pow-le-pow_left (lit≤ tt) (size n)))

pub at_most : (n r s : ℕ) → r * r ≤ n → n < (s + 1) * (s + 1) → r ≤ s
at_most n r s h l = le_of_suc-le-suc (lt_of_not-le (λ (g : suc s ≤ r). clash (mul-le-mul g g)))
  where
    clash : suc s * suc s ≤ r * r → ⊥
    clash g = omega arith

floor_unique : (n r s : ℕ) → Floor n r → Floor n s → r ≡ s
floor_unique n r s h k = le_antisymm (at_most n r s h.0 k.1) (at_most n s r k.0 h.1)

compare_lt : (a b : ℕ) → a < b → compare a b ≡ Ordering.lt
compare_lt a zero h = absurd (not-suc-le-zero h)
compare_lt zero (suc b) h = compare.zero-suc b
compare_lt (suc a) (suc b) h = compare.suc-suc a b ∙ compare_lt a b (le_of_suc-le-suc h)

compare_gt : (a b : ℕ) → b < a → compare a b ≡ Ordering.gt
compare_gt zero b h = absurd (not-suc-le-zero h)
compare_gt (suc a) zero h = compare.suc-zero a
compare_gt (suc a) (suc b) h = compare.suc-suc a b ∙ compare_gt a b (le_of_suc-le-suc h)

-- the square of the number before q
pub before : (q r : ℕ) → q ≡ r + 1 → q * q ≡ r * r + 2 * r + 1
before q r e = rw e (omega arith)

-- The whole number nearest to √n is what `rounded` says: n lies on one side of q * q, and on the inner side of a
-- midpoint.
module _ (n q k : ℕ) (h : Near n q) where
  at_floor : (r : ℕ) → Floor n r →
      rounded (n * 2 ^ (2 * k)) k
      ≡ nearest r (compare (4 * (n * 2 ^ (2 * k))) ((2 * r + 1) * (2 * r + 1) * 2 ^ (2 * k)))
  unfolding rounded
  at_floor r f = rw (mul-div_cancel n (pow_pos (2 * k)), floor_unique n (floor_root n) r (floor_is n) f)

  pub near_rounded : rounded (n * 2 ^ (2 * k)) k ≡ q
  near_rounded = go (dec_le (q * q) n)
    where
      go : Dec (q * q ≤ n) → rounded (n * 2 ^ (2 * k)) k ≡ q
      go (yes l) =
          let g : 4 * n < (2 * q + 1) * (2 * q + 1) = omega arith in
          let g' : 4 * (n * 2 ^ (2 * k)) < (2 * q + 1) * (2 * q + 1) * 2 ^ (2 * k) =
          omega (arith, mul-lt-mul_of_pos_right g (pow_pos (2 * k))) in
          at_floor q (l, omega arith) ∙ rw compare_lt
      go (no l) =
          let f = lt_of_not-le l in
          let r = q - 1 in
          let p : q ≡ r + 1 = omega arith in
          let s = before q r p in
          let g : (2 * r + 1) * (2 * r + 1) < 4 * n = omega arith in
          let g' : (2 * r + 1) * (2 * r + 1) * 2 ^ (2 * k) < 4 * (n * 2 ^ (2 * k)) =
          omega (arith, mul-lt-mul_of_pos_right g (pow_pos (2 * k))) in
          at_floor r (omega arith, omega arith) ∙ rw compare_gt (omega arith)

-- Every n above 0 has such a q: its floor or the next.
pub nearest_of : (n : ℕ) → 0 < n → (q : ℕ) × Near n q
nearest_of n p = go (floor_root n) (floor_is n) (dec_le n (floor_root n * floor_root n + floor_root n))
  where
    go : (f : ℕ) → Floor n f → Dec (n ≤ f * f + f) → (q : ℕ) × Near n q
    go zero h (yes l) = (0, omega arith)
    go (suc f) h (yes l) = (suc f, omega arith)
    go f h (no l) = let g = lt_of_not-le l in (f + 1, omega arith)

-- A root of m * 2 ^ 52, a number of 105 or 106 digits, has 53.
module _ (m q : ℕ) (h : Near (m * 2 ^ 52) q) (lo : 2 ^ 52 ≤ m) (hi : m + 2 ≤ 2 ^ 54) where
  pub long : 2 ^ 52 ≤ q
  long = lt_of_not-le (λ (g : q ≤ 2 ^ 52 - 1). let s = mul-le-mul g g in omega arith)

  pub short : q < 2 ^ 53
  short = lt_of_not-le (λ (g : 2 ^ 53 ≤ q). clash (q - 2 ^ 53) (omega arith))
    where
      clash : (d : ℕ) → q ≡ 2 ^ 53 + d → ⊥
      clash d e = let s : q * q ≡ 2 ^ 106 + 2 ^ 54 * d + d * d = rw e (omega arith) in omega arith

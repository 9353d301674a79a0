-- A number below y * y, as that product rounds, has no root above y, and one above it none below y. Assumes nothing.
use Rattle.std.proofs.Common.{◌≡◌, ℕ, zero, suc, ◌+◌, ◌*◌, ◌^◌, ◌<◌, ◌≤◌, true, false, T, sym, refl, ◌∙◌, le_of_lt}
use Rattle.std.proofs.Common.{mul-le-mul_right, mul-le-mul, mul-le-mul_left, mul-pos, lt_of_not-le, arith, pow_pos}
use Rattle.std.proofs.Common.{le-ltb}
use mathlib.Core.Bool.{false≢true, not-eq-not}
use lib.Ieee.{Float, nan, inf, fin, binary64, up, down, fits, round, mul, lt, le}
use lib.Ieee.Order.{le_of_values, round_mono}
use lib.Ieee.Positive.{positive-finite, mul_at}
use Rattle.numbers.specs.Root.{units, root, AboveZero}
use Rattle.numbers.proofs.Nearest.{none_nearer}
use Rattle.numbers.proofs.Plain.{of_positive, clash, some}
use Rattle.numbers.proofs.Finite.{top}
use Rattle.numbers.proofs.Bounds.{square_plain, square_held}
use Rattle.numbers.proofs.Signs.{Positive, infinity, plus}
use Rattle.numbers.proofs.Rounds.{value, itself}

smaller : (x y : Float) → AboveZero x → AboveZero y → lt x y ≡ true → units x < units y
smaller x y h k l =
    let u = pow_pos 1074 in
    let other = le_of_values y x (units y) (2 ^ 1074) (units x) (2 ^ 1074) u u (value y k) (value x h) in
    lt_of_not-le (λ (g : units y ≤ units x).
    clash (of_positive x h.1) (of_positive y k.1) l (other (mul-le-mul_right (2 ^ 1074) g)))

-- ---- squares

-- a is at most the midpoint of a and b, whose square is at most n; and b is at least the midpoint
half : (a b n : ℕ) → a < b → (a + b) * (a + b) ≤ 4 * n → a * a ≤ n
half a b n h l = let g = le_of_lt h in omega (arith, mul-le-mul g g, mul-le-mul_left a g)

double : (a b n : ℕ) → a < b → 4 * n ≤ (b + a) * (b + a) → n ≤ b * b
double a b n h l = let g = le_of_lt h in omega (arith, mul-le-mul g g, mul-le-mul_left b g)

over : (a n u : ℕ) → a ≤ n * u → a * u ≤ n * (u * u)
over a n u h = omega (arith, mul-le-mul_right u h)

under : (a n u : ℕ) → n * u ≤ a → n * (u * u) ≤ a * u
under a n u h = omega (arith, mul-le-mul_right u h)

pub squared : (y : Float) → AboveZero y →
    mul binary64 y y ≡ round binary64 false (units y * units y) (2 ^ 1074 * 2 ^ 1074)
squared y k =
    let u = pow_pos 1074 in
    let v = value y k in
    mul_at binary64 y y (units y) (2 ^ 1074) (units y) (2 ^ 1074) k.1 k.1 u u v v

-- where the square of y is at most x, or at least, so is what it rounds to
module _ (x y : Float) (h : AboveZero x) (k : AboveZero y) where
  square_under : units y * units y ≤ units x * 2 ^ 1074 → T (le (mul binary64 y y) x)
  square_under l =
      let u = pow_pos 1074 in
      let s = units y * units y in
      let o = over s (units x) (2 ^ 1074) l in
      let m = round_mono binary64 s (2 ^ 1074 * 2 ^ 1074) (units x) (2 ^ 1074) (mul-pos u u) u o in
      rw (squared y k) (rw (itself x h) at m)

  square_over : units x * 2 ^ 1074 ≤ units y * units y → T (le x (mul binary64 y y))
  square_over l =
      let u = pow_pos 1074 in
      let s = units y * units y in
      let o = under s (units x) (2 ^ 1074) l in
      let m = round_mono binary64 (units x) (2 ^ 1074) s (2 ^ 1074 * 2 ^ 1074) u (mul-pos u u) o in
      rw (squared y k) (rw (itself x h) at m)

-- ---- the laws

-- A root above y lies beyond the midpoint of y and itself, so the square of y is at most x. A root below y lies before
-- it, so the square of y is at least x.
module _ (x y : Float) (h : AboveZero x) (k : AboveZero y) where
  pub no_higher : lt x (mul binary64 y y) ≡ true → lt y (root x) ≡ false
  no_higher l = (not-eq-not {b = false}).0 (λ (g : lt y (root x) ≡ true).
      let r = none_nearer x h in
      let s = smaller y (root x) k r.above_zero g in
      let m = r.from_below y (k.0, positive-finite y k.1) s in
      let q = square_under x y h k (half (units y) (units (root x)) (units x * 2 ^ 1074) s m) in
      clash (of_positive x h.1) (square_plain (of_positive y k.1) (of_positive x h.1) q) l q)

  pub no_lower : lt (mul binary64 y y) x ≡ true → lt (root x) y ≡ false
  no_lower l = (not-eq-not {b = false}).0 (λ (g : lt (root x) y ≡ true).
      let r = none_nearer x h in
      let s = smaller (root x) y r.above_zero k g in
      let m = r.from_above y (k.0, positive-finite y k.1) s in
      let q = square_over x y h k (double (units (root x)) (units y) (units x * 2 ^ 1074) s m) in
      clash (square_held x (of_positive y k.1) l) (of_positive x h.1) l q)

pub not_above : (x y : Float) → T (fits binary64 x) → T (fits binary64 y) → Positive y →
    lt x (mul binary64 y y) ≡ true → lt y (root x) ≡ false
unfolding root lt
not_above x y h k infinity l = top (root x)
not_above nan y h k (plus n d) l = refl
not_above (inf true) y h k (plus n d) l = refl
not_above (inf false) y h k (plus n d) l = absurd (false≢true (sym (top (mul binary64 y y)) ∙ l))
not_above (fin true zero e) y h k (plus n d) l = refl
not_above (fin false zero e) y h k (plus n d) l = le-ltb (suc n * up d * down e) (0 * up e * down d) (omega arith)
not_above (fin true (suc m) e) y h k (plus n d) l = refl
not_above (fin false (suc m) e) y h k (plus n d) l = no_higher (fin false (suc m) e) y (h, some m) (k, some n) l

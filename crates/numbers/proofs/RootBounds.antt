-- Bounds of a root, from squares, and of a root's square. Assumes nothing.
use Rattle.std.proofs.Common.{◌≡◌, ℕ, ◌+◌, ◌-◌, ◌*◌, ◌^◌, ◌≤◌, true, T, zero-le, lt_of_le_of_lt, mul-le-mul_right}
use Rattle.std.proofs.Common.{mul-pos, arith, pow_pos}
use lib.Ieee.{Float, binary64, fits, mul, lt}
use lib.Ieee.Positive.{num, den, positive, den_pos, first_pos, own_value, mul_at}
use Rattle.numbers.specs.Root.{units, root, AboveZero}
use Rattle.numbers.proofs.Nearest.{root_squared, none_nearer}
use Rattle.numbers.proofs.Plain.{of_positive, above_zero, below, at_most, below_at_most, at_most_below}
use Rattle.numbers.proofs.Bounds.{Bounded, grows, rounds, square_held}
use Rattle.numbers.proofs.Rounds.{value}
use Rattle.numbers.proofs.Exceeds.{squared, no_higher, no_lower}

module _ {l x h : Float} (b : Bounded l x h) (f : T (fits binary64 x)) (lo hi : Float)
    (p : AboveZero lo) (q : AboveZero hi) where
  pub root_bounded : lt (mul binary64 lo lo) l ≡ true → lt h (mul binary64 hi hi) ≡ true → Bounded lo (root x) hi
  root_bounded j k =
      let P = of_positive lo p.1 in
      let Q = of_positive hi q.1 in
      let S = square_held l P j in
      let L = first_pos (num l) (den (mul binary64 lo lo)) (lt_of_le_of_lt zero-le (below S b.low j)) in
      let X : AboveZero x = (f, above_zero b.self (grows l x b.from L)) in
      let R = of_positive (root x) (none_nearer x X).above_zero.1 in
      record {
        low = P;
        self = R;
        high = Q;
        from = at_most R P (no_lower x lo X p (below_at_most S b.low b.self j b.from));
        to = at_most Q R (no_higher x hi X q (at_most_below (mul binary64 hi hi) b.self b.high b.to k));
      }

-- ---- a root's square, between two multiples of the number

-- a / b is their factor, x the number and s the square, in units and in squares of units
module _ (x s u a b : ℕ) where
  less : x * u * 2 ^ 52 ≤ s * 2 ^ 52 + s → a * (2 ^ 52 + 1) ≤ b * 2 ^ 52 → x * a * (u * u) ≤ s * (u * b)
  less h k = omega (arith, mul-le-mul_right (a * u) h, mul-le-mul_right (s * u) k)

  more : s * 2 ^ 52 ≤ x * u * 2 ^ 52 + s → b * 2 ^ 52 ≤ a * (2 ^ 52 - 1) → s * (u * b) ≤ x * a * (u * u)
  more h k = omega (arith, mul-le-mul_right (a * u) h, mul-le-mul_right (s * u) k)

module _ (x l h : Float) (X : AboveZero x) (p : T (positive l)) (q : T (positive h)) (z : Float) where
  pub square_bounded : num l * (2 ^ 52 + 1) ≤ den l * 2 ^ 52 → den h * 2 ^ 52 ≤ num h * (2 ^ 52 - 1) →
      lt (mul binary64 x h) z ≡ true → Bounded (mul binary64 x l) (mul binary64 (root x) (root x)) (mul binary64 x h)
  square_bounded a b t =
      let r = root x in
      let s = root_squared x X in
      let u = pow_pos 1074 in
      let v = value x X in
      let L = mul_at binary64 x l (units x) (2 ^ 1074) (num l) (den l) X.1 p u (den_pos l) v (own_value l p) in
      let H = mul_at binary64 x h (units x) (2 ^ 1074) (num h) (den h) X.1 q u (den_pos h) v (own_value h q) in
      rw (L, H, squared r (none_nearer x X).above_zero)
      (rounds _ _ _ _ _ _ z (mul-pos u (den_pos l)) (mul-pos u u) (mul-pos u (den_pos h))
      (less (units x) (units r * units r) (2 ^ 1074) (num l) (den l) s.1 a)
      (more (units x) (units r * units r) (2 ^ 1074) (num h) (den h) s.0 b)
      (rw H at t))

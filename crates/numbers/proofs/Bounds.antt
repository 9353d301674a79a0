-- Bounds that arithmetic keeps: operands between bounds, all plain, have a result between those of the bounds, since
-- rounding keeps order. Assumes nothing.
use Rattle.std.proofs.Common.{◌≡◌, ℕ, zero, suc, ◌+◌, ◌-◌, ◌*◌, ◌<◌, ◌≤◌, Bool, true, false, T, sym, refl, ◌∙◌, le_refl}
use Rattle.std.proofs.Common.{lt_of_lt_of_le, le_of_lt, mul-le-mul_right, mul_comm, mul-le-mul, mul-pos, arith}
use native.Mathlib.Nat.{mul-sub}
use mathlib.Core.Bool.{false≢true}
use lib.Dec.{eqb-suc-zero}
use lib.Ieee.{Float, binary64, up, down, round, sum, add, sub, mul, div, lt, le}
use lib.Ieee.Order.{round_mono}
use lib.Ieee.Positive.{num, den, den_pos, first_pos}
use Rattle.numbers.specs.Basic.{magnitude}
use Rattle.numbers.proofs.Plain.{Plain, plain, AtMost, chain, below, at_most, not_below, of_le, at_most_below}
use Rattle.numbers.proofs.Finite.{top}
use Rattle.numbers.proofs.Mirror.{Rounded, number, overflow, rounded, round_magnitude}

pub record Bounded (lo x hi : Float) : Type 0 where
  pub low : Plain lo
  pub self : Plain x
  pub high : Plain hi
  pub from : AtMost lo x
  pub to : AtMost x hi

pub exact : {x : Float} → Plain x → Bounded x x x
exact {x} p = record { low = p; self = p; high = p; from = le_refl (num x * den x); to = le_refl (num x * den x) }

pub grows : (x y : Float) → AtMost x y → 0 < num x → 0 < num y
grows x y h p = first_pos (num y) (den x) (lt_of_lt_of_le (mul-pos p (den_pos y)) h)

-- ---- rounding

held : {x : Float} (z : Float) → Rounded x → lt x z ≡ true → Plain x
held z (number p) h = p
held z overflow h = absurd (false≢true (sym (top z) ∙ h))

under : {x y : Float} → Rounded x → Plain y → T (le x y) → Plain x
unfolding le
under (number p) q h = p
under overflow (plain n d) h = absurd h

-- three fractions in order; the highest, and so each, is finite when rounded
module _ (a b c d e f : ℕ) (z : Float) (B : 0 < b) (D : 0 < d) (F : 0 < f) where
  pub rounds : a * d ≤ c * b → c * f ≤ e * d → lt (round binary64 false e f) z ≡ true →
      Bounded (round binary64 false a b) (round binary64 false c d) (round binary64 false e f)
  rounds h k t =
      let l = round_mono binary64 a b c d B D h in
      let r = round_mono binary64 c d e f D F k in
      let high = held z (rounded e f) t in
      let self = under (rounded c d) high r in
      let low = under (rounded a b) self l in
      record { low = low; self = self; high = high; from = of_le low self l; to = of_le self high r }

-- ---- the operations, as roundings of fractions

over : (x y : Float) → 0 < den x * den y
over x y = mul-pos (den_pos x) (den_pos y)

mul_is : {x y : Float} → Plain x → Plain y → mul binary64 x y ≡ round binary64 false (num x * num y) (den x * den y)
unfolding mul
mul_is (plain m e) (plain n d) = refl

add_is : {x y : Float} → Plain x → Plain y →
    add binary64 x y ≡ round binary64 false (num x * den y + num y * den x) (den x * den y)
unfolding add sum
add_is (plain m e) (plain n d) = refl

div_is : {x y : Float} → Plain x → Plain y → 0 < num y →
    div binary64 x y ≡ round binary64 false (num x * den y) (num y * den x)
unfolding div
div_is (plain m e) (plain zero d) h = absurd (omega arith)
div_is (plain m e) (plain (suc n) d) h = rw (eqb-suc-zero n)

sub_is : {x y : Float} → Plain x → Plain y → lt x y ≡ false →
    sub binary64 x y ≡ round binary64 false (num x * den y - num y * den x) (den x * den y)
unfolding sub sum lt
sub_is (plain m e) (plain n d) h = rw h

distance_is : {x y : Float} → Plain x → Plain y → lt x y ≡ true →
    magnitude (sub binary64 x y) ≡ round binary64 false (num y * den x - num x * den y) (den x * den y)
unfolding sub sum lt
distance_is (plain m e) (plain n d) h =
    rw h (round_magnitude true (n * up d * down e - m * up e * down d) (down e * down d))

-- a square that is below a number, or at most a finite one, is finite
square_is : {x : Float} → Plain x → Rounded (mul binary64 x x)
square_is {x} p = rw (mul_is p p) (rounded (num x * num x) (den x * den x))

pub square_held : {x : Float} (y : Float) → Plain x → lt (mul binary64 x x) y ≡ true → Plain (mul binary64 x x)
square_held y p h = held y (square_is p) h

pub square_plain : {x y : Float} → Plain x → Plain y → T (le (mul binary64 x x) y) → Plain (mul binary64 x x)
square_plain p q h = under (square_is p) q h

-- ---- the order of such fractions: a / b ≤ c / d, and the like for a', or y / v ≤ z / w

module _ (a b c d a' b' c' d' : ℕ) (h : a * d ≤ c * b) (k : a' * d' ≤ c' * b') where
  products : a * a' * (d * d') ≤ c * c' * (b * b')
  products = omega (arith, mul-le-mul h k)

  sums : (a * b' + a' * b) * (d * d') ≤ (c * d' + c' * d) * (b * b')
  sums = omega (arith, mul-le-mul_right (b' * d') h, mul-le-mul_right (b * d) k)

  quotients : a * d' * (a' * d) ≤ c * b' * (c' * b)
  quotients = omega (arith, mul-le-mul h k)

sub_mul : (m n k : ℕ) → (m - n) * k ≡ m * k - n * k
sub_mul m n k = mul_comm (m - n) k ∙ mul-sub k m n ∙ omega arith

module _ (x u y v z w : ℕ) (h : y * w ≤ z * v) where
  before : (x * w - z * u) * (u * v) ≤ (x * v - y * u) * (u * w)
  before = simp sub_mul (omega (arith, mul-le-mul_right (u * u) h))

  behind : (y * u - x * v) * (w * u) ≤ (z * u - x * w) * (u * v)
  behind = simp sub_mul (omega (arith, mul-le-mul_right (u * u) h))

-- ---- the laws

module _ {a x b c y d : Float} (p : Bounded a x b) (q : Bounded c y d) (z : Float) where
  pub product : lt (mul binary64 b d) z ≡ true → Bounded (mul binary64 a c) (mul binary64 x y) (mul binary64 b d)
  product t =
      rw (mul_is p.low q.low, mul_is p.self q.self, mul_is p.high q.high)
      (rounds _ _ _ _ _ _ z (over a c) (over x y) (over b d)
      (products (num a) (den a) (num x) (den x) (num c) (den c) (num y) (den y) p.from q.from)
      (products (num x) (den x) (num b) (den b) (num y) (den y) (num d) (den d) p.to q.to)
      (rw (mul_is p.high q.high) at t))

  pub total : lt (add binary64 b d) z ≡ true → Bounded (add binary64 a c) (add binary64 x y) (add binary64 b d)
  total t =
      rw (add_is p.low q.low, add_is p.self q.self, add_is p.high q.high)
      (rounds _ _ _ _ _ _ z (over a c) (over x y) (over b d)
      (sums (num a) (den a) (num x) (den x) (num c) (den c) (num y) (den y) p.from q.from)
      (sums (num x) (den x) (num b) (den b) (num y) (den y) (num d) (den d) p.to q.to)
      (rw (add_is p.high q.high) at t))

  pub quotient : 0 < num c → lt (div binary64 b c) z ≡ true →
      Bounded (div binary64 a d) (div binary64 x y) (div binary64 b c)
  quotient C t =
      let Y = grows c y q.from C in
      let D = grows y d q.to Y in
      rw (div_is p.low q.high D, div_is p.self q.self Y, div_is p.high q.low C)
      (rounds _ _ _ _ _ _ z (mul-pos D (den_pos a)) (mul-pos Y (den_pos x)) (mul-pos C (den_pos b))
      (quotients (num a) (den a) (num x) (den x) (num y) (den y) (num d) (den d) p.from q.to)
      (quotients (num x) (den x) (num b) (den b) (num c) (den c) (num y) (den y) p.to q.from)
      (rw (div_is p.high q.low C) at t))

module _ {x c y d : Float} (p : Plain x) (q : Bounded c y d) (z : Float) where
  -- what is left of x
  pub rest : lt d x ≡ true → lt (sub binary64 x c) z ≡ true →
      Bounded (sub binary64 x d) (sub binary64 x y) (sub binary64 x c)
  rest h t =
      let D = le_of_lt (below q.high p h) in
      let Y = chain y d x q.to D in
      let C = sub_is p q.low (not_below p q.low (chain c y x q.from Y)) in
      rw (sub_is p q.high (not_below p q.high D), sub_is p q.self (not_below p q.self Y), C)
      (rounds _ _ _ _ _ _ z (over x d) (over x y) (over x c)
      (before (num x) (den x) (num y) (den y) (num d) (den d) q.to)
      (before (num x) (den x) (num c) (den c) (num y) (den y) q.from)
      (rw C at t))

  smaller : (i j k l : ℕ) → 0 < j → 0 < l → i * l ≤ k * j → lt (round binary64 false k l) z ≡ true →
      lt (round binary64 false i j) z ≡ true
  smaller i j k l J L h t =
      let r = rounds i j i j k l z J J L (le_refl (i * j)) h t in
      at_most_below z r.self r.high r.to t

  -- y is nearer to x than z, since both bounds are
  pub near : lt (sub binary64 x c) z ≡ true → lt (sub binary64 d x) z ≡ true →
      lt (magnitude (sub binary64 x y)) z ≡ true
  near h k = go (lt x y) refl
    where
      go : (b : Bool) → lt x y ≡ b → lt (magnitude (sub binary64 x y)) z ≡ true
      go false e =
          let Y = at_most p q.self e in
          rw (sub_is p q.self e, round_magnitude false _ _)
          (smaller _ _ _ _ (over x y) (over x c) (before (num x) (den x) (num c) (den c) (num y) (den y) q.from)
          (rw (sub_is p q.low (not_below p q.low (chain c y x q.from Y))) at h))
      go true e =
          let X = le_of_lt (below p q.self e) in
          rw (distance_is p q.self e)
          (smaller _ _ _ _ (over x y) (over d x) (behind (num x) (den x) (num y) (den y) (num d) (den d) q.to)
          (rw (sub_is q.high p (not_below q.high p (chain x y d X q.to))) at k))

-- `numbers::root::digit_by_digit` meets its contract. The invariant: after some number t of turns, r is the root of the
-- digits of m * 2 ^ (2 * t) that have left the register a; the measure falls, as r grows at each turn. Assumes nothing.
use Rattle.std.proofs.Common.{◌≡◌, ℕ, zero, suc, ◌+◌, ◌*◌, ◌/◌, ◌^◌, ◌<◌, ◌≤◌, mul-le-mul_right, mul-le-mul}
use Rattle.std.proofs.Common.{mul-lt-mul_of_pos_right, mul-pos, lt_of_not-le, le-mul_of_pos_right, arith, pow_pos}
use Rattle.std.proofs.Common.{pow_mono}
use native.Mathlib.Nat.{pow-succ'}
use Rattle.numbers.specs.Parts.{Near}
use Rattle.numbers.proofs.root.digit_by_digit.Invariants.{Digits}
use Rattle.numbers.proofs.root.digit_by_digit.Goals as goal
use Rattle.numbers.proofs.root.digit_by_digit.Goals.{After-loop-r}

-- `omega` counts to 38 digits: the register's 64 binary digits are taken off both sides first
under : (m a s W : ℕ) → s * 2 ^ 64 + a ≡ m * W → m * W < 2 ^ 64 * W → s < W
under m a s W e h = omega arith

over : (m a s W : ℕ) → s * 2 ^ 64 + a ≡ m * W → a < 2 ^ 64 → 2 ^ 62 * W ≤ m * W → W ≤ 4 * s + 3
over m a s W e l h = omega arith

-- a quarter of a W that is not below 2 ^ 108 has a root of more than 53 digits
too_long : (r rest W : ℕ) → rest ≤ 2 * r → (r + 1) * (r + 1) ≤ 2 ^ 53 * 2 ^ 53 → 2 ^ 54 * 2 ^ 54 ≤ W →
    W ≤ 4 * (r * r + rest) + 3 → ⊥
too_long r rest W l b x n = omega arith

-- where a turn's digit is 0, r is above 0 and doubles: the first turn's digit is 1, since m is not below 2 ^ 62
grows : (m a r rest W : ℕ) → (r * r + rest) * 2 ^ 64 + a ≡ m * W → rest ≤ 2 * r → 2 ^ 62 ≤ m * W →
    rest * 4 + a / 2 ^ 62 ≤ r * 2 * 2 → 0 < r
grows m a zero rest W e l h g = omega arith
grows m a (suc r) rest W e l h g = omega arith

-- 2 ^ (2 * t), by which m is moved up after t turns, is above 0
squared : (t : ℕ) → 0 < 2 ^ t * 2 ^ t
squared t = mul-pos (pow_pos t) (pow_pos t)

module _ (m a r rest t : ℕ) (h : Digits m a r rest (2 ^ t)) (full : 2 ^ 52 ≤ r) where
  -- before the 53rd turn r has fewer than 53 digits
  late : m < 2 ^ 64 → 52 < t
  late l = lt_of_not-le no
    where
      clash : {W : ℕ} → W ≤ 2 ^ 52 * 2 ^ 52 → 2 ^ 52 * 2 ^ 52 ≤ r * r → r * r + rest < W → ⊥
      clash x y n = omega arith

      no : t ≤ 52 → ⊥
      no g =
          let w : 2 ^ t ≤ 2 ^ 52 = pow_mono g in
          let W = 2 ^ t * 2 ^ t in
          clash (mul-le-mul w w) (mul-le-mul full full)
          (under m a (r * r + rest) W h.value (mul-lt-mul_of_pos_right l (squared t)))

  -- after one more it would have 54
  soon : 2 ^ 62 ≤ m → t < 54
  soon l = lt_of_not-le no
    where
      no : 54 ≤ t → ⊥
      no g =
          let w : 2 ^ 54 ≤ 2 ^ t = pow_mono g in
          let W = 2 ^ t * 2 ^ t in
          let b : r + 1 ≤ 2 ^ 53 = omega (arith, h.few) in
          too_long r rest W h.left (mul-le-mul b b) (mul-le-mul w w)
          (over m a (r * r + rest) W h.value h.low (mul-le-mul_right W l))

  -- so 53 turns were taken, and the register is empty
  emptied : 2 ^ 62 ≤ m → m < 2 ^ 64 → r * r + rest ≡ m * 2 ^ 42
  emptied l u =
      let e : t ≡ 53 = omega (arith, late u, soon l) in
      omega (arith, h.low, rw e at h.value)

-- where rest is above r, the root is nearer to r + 1
up : (n r rest : ℕ) → r * r + rest ≡ n → rest ≤ 2 * r → r < rest → Near n (r + 1)
up n r rest e l g = omega arith

-- what the loop leaves
ended : (c : After-loop-r) →
    let l = c.loop-r in
    l.r * l.r + l.rest ≡ c.args.m * 2 ^ 42
ended c =
    let l = c.loop-r in
    emptied c.args.m l.a l.r l.rest l.invariant.0 l.invariant.1 (omega arith) (omega arith)
    (omega arith)

pub loop-r-init : goal.loop-r-init
loop-r-init c = (0, omega arith)

pub overflow_mul-rest : goal.overflow_mul-rest
overflow_mul-rest c = omega arith

pub overflow_add-rest : goal.overflow_add-rest
overflow_add-rest c = omega arith

pub overflow_mul-r : goal.overflow_mul-r
overflow_mul-r c = omega arith

pub overflow_mul-r-in-loop-r : goal.overflow_mul-r-in-loop-r
overflow_mul-r-in-loop-r c = omega arith

pub overflow_mul-rest-then-r-rest : goal.overflow_mul-rest-then-r-rest
overflow_mul-rest-then-r-rest c = omega arith

pub overflow_add-rest-then-r-rest : goal.overflow_add-rest-then-r-rest
overflow_add-rest-then-r-rest c = omega arith

pub overflow_sub-rest : goal.overflow_sub-rest
overflow_sub-rest c = omega arith

pub overflow_add-r : goal.overflow_add-r
overflow_add-r c = omega arith

pub loop-r-smaller-then-r-rest : goal.loop-r-smaller-then-r-rest
loop-r-smaller-then-r-rest c = omega arith

pub loop-r-preserved-then-r-rest : goal.loop-r-preserved-then-r-rest
loop-r-preserved-then-r-rest c =
    let t = c.loop-r.invariant.0 in
    (suc t, rw (pow-succ' 2 t) (omega arith))

pub loop-r-smaller : goal.loop-r-smaller
loop-r-smaller c =
    let m = c.args.m in
    let l = c.loop-r in
    let p = le-mul_of_pos_right m (squared l.invariant.0) in
    omega (arith, grows m l.a l.r l.rest _ l.invariant.1.value (omega arith) (omega arith) (omega arith))

pub loop-r-preserved : goal.loop-r-preserved
loop-r-preserved c =
    let t = c.loop-r.invariant.0 in
    (suc t, rw (pow-succ' 2 t) (omega arith))

pub overflow_add-result : goal.overflow_add-result
overflow_add-result c = omega arith

pub returns-then-r-rest-2 : goal.returns-then-r-rest-2
returns-then-r-rest-2 c =
    let l = c.loop-r in
    up (c.args.m * 2 ^ 42) l.r l.rest (ended (goal.at.returns-then-r-rest-2 c).After-loop-r) (omega arith) (omega arith)

pub returns-else-r-rest-2 : goal.returns-else-r-rest-2
returns-else-r-rest-2 c = omega (arith, ended (goal.at.returns-else-r-rest-2 c).After-loop-r)

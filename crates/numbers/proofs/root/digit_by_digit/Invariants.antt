use Rattle.std.proofs.Common.{◌≡◌, ℕ, ◌+◌, ◌-◌, ◌*◌, ◌^◌, ◌<◌, ◌≤◌}
use Rattle.numbers.proofs.root.digit_by_digit.Given as goal

-- with w = 2 ^ t after t turns: each has taken two digits from the register, and given one of r
pub record Digits (m a r rest w : ℕ) : Type 0 where
  pub value : (r * r + rest) * 2 ^ 64 + a ≡ m * (w * w)
  pub left : rest ≤ 2 * r
  pub low : a < 2 ^ 64
  pub few : r < 2 ^ 53

abbrev pub invariant-loop-r : goal.invariant-loop-r
invariant-loop-r l = (t : ℕ) × Digits l.m l.a l.r l.rest (2 ^ t)

abbrev pub decreases-loop-r : goal.decreases-loop-r
decreases-loop-r l = 2 ^ 53 - l.r

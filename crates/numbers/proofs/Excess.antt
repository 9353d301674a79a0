-- What whole numbers of 64 digits tell of the square of a guess: its parts, and a difference that may have wrapped.
-- Assumes nothing.
use Rattle.std.proofs.Common.{◌≡◌, ℕ, ◌+◌, ◌-◌, ◌*◌, ◌/◌, ◌%◌, ◌^◌, ◌<◌, ◌≤◌, mul-le-mul, arith}
use Rattle.numbers.specs.Parts.{Differ, Above, Close}
use Rattle.numbers.proofs.Roots.{before}

-- the square of g by its upper 32 digits and the 21 below them, none of whose products wraps
pub record Squared (g : ℕ) : Type 0 where
  pub upper : g / 2 ^ 21 * (g / 2 ^ 21) < 2 ^ 64
  pub cross : g / 2 ^ 21 * (g % 2 ^ 21) < 2 ^ 53
  pub lower : g % 2 ^ 21 * (g % 2 ^ 21) < 2 ^ 42
  pub whole :
      g * g ≡ g / 2 ^ 21 * (g / 2 ^ 21) * 2 ^ 42 + g / 2 ^ 21 * (g % 2 ^ 21) * 2 ^ 22 + g % 2 ^ 21 * (g % 2 ^ 21)

pub squared : (g : ℕ) → g < 2 ^ 53 → Squared g
squared g h =
    let a = g / 2 ^ 21 in
    let c = g % 2 ^ 21 in
    let x : a ≤ 2 ^ 32 - 1 = omega arith in
    let y : c ≤ 2 ^ 21 - 1 = omega arith in
    record {
      upper = omega (arith, mul-le-mul x x);
      cross = omega (arith, mul-le-mul x y);
      lower = omega (arith, mul-le-mul y y);
      whole = parts g a c (omega arith);
    }
  where
    parts : (g a c : ℕ) → g ≡ a * 2 ^ 21 + c → g * g ≡ a * a * 2 ^ 42 + a * c * 2 ^ 22 + c * c
    parts g a c e = rw e (omega arith)

-- the difference of two numbers that are near each other, from its lower 64 digits
differ : (x y v : ℕ) → x ≤ y + 2 ^ 62 → y ≤ x + 2 ^ 62 → v < 2 ^ 64 → (v + y) % 2 ^ 64 ≡ x % 2 ^ 64 → Differ x y v
differ x y v a b h e = ((λ (l : v < 2 ^ 63). omega arith), (λ (l : 2 ^ 63 ≤ v). omega arith))

-- the excess of a close guess is that of the number before it
pub close_above : (m g v : ℕ) → Close m g → v < 2 ^ 64 → (v + (m * 2 ^ 42 + g)) % 2 ^ 64 ≡ g * g % 2 ^ 64 →
    Above m (g - 1) v
close_above m g v (lo, hi, a, b) h e =
    let d = differ (g * g) (m * 2 ^ 42 + g) v (omega arith) (omega arith) h e in
    let s = before g (g - 1) (omega arith) in
    ((λ (l : v < 2 ^ 63). let w = d.0 l in omega arith), (λ (l : 2 ^ 63 ≤ v). let w = d.1 l in omega arith))

-- two differences make one
both : (v o x y z : ℕ) → (o + x) % 2 ^ 64 ≡ z → (v + y) % 2 ^ 64 ≡ o → (v + (x + y)) % 2 ^ 64 ≡ z
both v o x y z e f = omega arith

-- and 2g - 2 less it is that of the number before that: where this one is below 0, the root lies above the middle
pub close_below : (m g o v : ℕ) → Close m g → (o + (m * 2 ^ 42 + g)) % 2 ^ 64 ≡ g * g % 2 ^ 64 →
    (v + (g * 2 - 2)) % 2 ^ 64 ≡ o → v < 2 ^ 64 → 2 ^ 63 ≤ v → (g - 1) * (g - 1) < m * 2 ^ 42 + (g - 1)
close_below m g o v (lo, hi, a, b) e f = last (both v o (m * 2 ^ 42 + g) (g * 2 - 2) (g * g % 2 ^ 64) e f)
  where
    last : (v + (m * 2 ^ 42 + g + (g * 2 - 2))) % 2 ^ 64 ≡ g * g % 2 ^ 64 → v < 2 ^ 64 → 2 ^ 63 ≤ v →
        (g - 1) * (g - 1) < m * 2 ^ 42 + (g - 1)
    last e h l =
        let w = (differ (g * g) (m * 2 ^ 42 + g + (g * 2 - 2)) v (omega arith) (omega arith) h e).1 l in
        omega (arith, before g (g - 1) (omega arith))

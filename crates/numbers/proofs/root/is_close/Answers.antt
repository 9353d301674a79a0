-- `numbers::root::is_close` meets its contract: where off is small, neither it nor d has wrapped, but for what is below
-- 0. Assumes nothing.
use Rattle.std.proofs.Common.{◌≡◌, ℕ, ◌+◌, ◌*◌, ◌/◌, ◌%◌, ◌^◌, ◌<◌, ◌≤◌, mul-le-mul, arith, ltb-true}
use mathlib.Core.Bool.{false≢true}
use Rattle.numbers.proofs.Excess.{squared}
use Rattle.numbers.proofs.root.is_close.Goals as goal

-- z is off, moved up so that it is not below 0
raised : (p d off z : ℕ) → p < 2 ^ 53 → (off + p / 2 ^ 20) % 2 ^ 64 ≡ d → z ≡ (off + 2 ^ 15) % 2 ^ 64 → z < 2 ^ 16 →
    (d + 2 ^ 15) % 2 ^ 64 ≡ p / 2 ^ 20 + z
raised p d off z few v t l = omega arith

-- so neither d nor m wraps between m and the square
unwrapped : (m s d p z : ℕ) → 2 ^ 62 ≤ m → m < 2 ^ 64 → 2 ^ 62 ≤ s → s < 2 ^ 64 → p < 2 ^ 53 → z < 2 ^ 16 →
    (d + 2 ^ 15) % 2 ^ 64 ≡ p / 2 ^ 20 + z → (d + s) % 2 ^ 64 ≡ m → m + 2 ^ 15 ≡ s + p / 2 ^ 20 + z
unwrapped m s d p z a b e f g l v u = omega arith

-- so the square is near m * 2 ^ 42
near : (m n s p l z : ℕ) → n ≡ s * 2 ^ 42 + p * 2 ^ 22 + l → m + 2 ^ 15 ≡ s + p / 2 ^ 20 + z → l < 2 ^ 42 → z < 2 ^ 16 →
    (n ≤ m * 2 ^ 42 + 2 ^ 58) × (m * 2 ^ 42 ≤ n + 2 ^ 58)
near m n s p l z e u h k = (omega arith, omega arith)

pub returns-then-g-ne1 : goal.returns-then-g-ne1
returns-then-g-ne1 c e = absurd (false≢true e)

pub overflow_mul-a : goal.overflow_mul-a
overflow_mul-a c = omega (arith, squared c.args.g (omega arith))

pub overflow_mul-a-2 : goal.overflow_mul-a-2
overflow_mul-a-2 c = omega (arith, squared c.args.g (omega arith))

pub returns : goal.returns
returns c e =
    let m = c.args.m in
    let g = c.args.g in
    let a = g / 2 ^ 21 in
    let b = g % 2 ^ 21 in
    let d = c.wrapping_sub_u64-d.result in
    let z = c.wrapping_add_u64.result in
    let l = ltb-true z (2 ^ 16) e in
    let r = squared g (omega arith) in
    let least : 2 ^ 62 ≤ a * a = let i : 2 ^ 31 ≤ a = omega arith in mul-le-mul i i in
    let x = raised (a * b) d c.wrapping_sub_u64-off.result z r.cross c.wrapping_sub_u64-off.ensures.value
    c.wrapping_add_u64.ensures.value l in
    let y = unwrapped m (a * a) d (a * b) z (omega arith) (omega (arith, c.ranges)) least r.upper r.cross l x
    c.wrapping_sub_u64-d.ensures.value in
    let n = near m (g * g) (a * a) (a * b) (b * b) z r.whole y r.lower l in
    (omega arith, omega arith, n.0, n.1)

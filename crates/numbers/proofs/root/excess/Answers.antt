-- `numbers::root::excess` meets its contract: what wraps is a multiple of 2 ^ 64. Assumes nothing.
use Rattle.std.proofs.Common.{◌≡◌, ℕ, ◌+◌, ◌*◌, ◌/◌, ◌%◌, ◌^◌, arith}
use Rattle.numbers.proofs.Excess.{squared}
use Rattle.numbers.proofs.root.excess.Goals as goal

-- multiples of 2 ^ 64 wrap to nothing
same : (x y i j : ℕ) → x + i * 2 ^ 64 ≡ y + j * 2 ^ 64 → x % 2 ^ 64 ≡ y % 2 ^ 64
same x y i j e = omega arith

-- each number with what it lost as it wrapped
unwrapped : (m g s p l d x y t o r i j k n₁ n₂ n₃ : ℕ) → d + s ≡ m + i * 2 ^ 64 → d * 2 ^ 42 ≡ x + j * 2 ^ 64 →
    p * 2 ^ 22 ≡ y + k * 2 ^ 64 → x + g ≡ o + n₁ * 2 ^ 64 → y + l ≡ t + n₂ * 2 ^ 64 → r + o ≡ t + n₃ * 2 ^ 64 →
    r + (m * 2 ^ 42 + g) + (n₂ + k + i * 2 ^ 42) * 2 ^ 64 ≡ s * 2 ^ 42 + p * 2 ^ 22 + l + (n₁ + n₃ + j) * 2 ^ 64
unwrapped m g s p l d x y t o r i j k n₁ n₂ n₃ a b c e f h = omega arith

wrapped : (m g s p l d t o r : ℕ) → (d + s) % 2 ^ 64 ≡ m → t ≡ (p * 2 ^ 22 % 2 ^ 64 + l) % 2 ^ 64 →
    o ≡ (d * 2 ^ 42 % 2 ^ 64 + g) % 2 ^ 64 → (r + o) % 2 ^ 64 ≡ t →
    (r + (m * 2 ^ 42 + g)) % 2 ^ 64 ≡ (s * 2 ^ 42 + p * 2 ^ 22 + l) % 2 ^ 64
wrapped m g s p l d t o r a b c e =
    let x = d * 2 ^ 42 % 2 ^ 64 in
    let y = p * 2 ^ 22 % 2 ^ 64 in
    let i = (d + s) / 2 ^ 64 in
    let j = d * 2 ^ 42 / 2 ^ 64 in
    let k = p * 2 ^ 22 / 2 ^ 64 in
    let n₁ = (x + g) / 2 ^ 64 in
    let n₂ = (y + l) / 2 ^ 64 in
    let n₃ = (r + o) / 2 ^ 64 in
    same _ _ (n₂ + k + i * 2 ^ 42) (n₁ + n₃ + j)
    (unwrapped m g s p l d x y t o r i j k n₁ n₂ n₃ (omega arith) (omega arith) (omega arith) (omega arith)
    (omega arith) (omega arith))

pub overflow_mul-a : goal.overflow_mul-a
overflow_mul-a c = omega (arith, squared c.args.g (omega arith))

pub overflow_mul-a-2 : goal.overflow_mul-a-2
overflow_mul-a-2 c = omega (arith, squared c.args.g (omega arith))

pub overflow_mul-c : goal.overflow_mul-c
overflow_mul-c c = omega (arith, squared c.args.g (omega arith))

pub returns : goal.returns
returns c =
    let g = c.args.g in
    let a = g / 2 ^ 21 in
    let b = g % 2 ^ 21 in
    rw (squared g (omega arith)).whole
    (wrapped c.args.m g (a * a) (a * b) (b * b) c.wrapping_sub_u64-d.result _ _ _
    c.wrapping_sub_u64-d.ensures.value c.wrapping_add_u64-square.ensures.value
    c.wrapping_add_u64.ensures.value c.wrapping_sub_u64.ensures.value)

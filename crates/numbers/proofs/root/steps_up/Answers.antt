-- `numbers::root::steps_up` meets its contract. The invariant: q is n above g, over is what q * (q + 1) is above
-- m * 2 ^ 42, which the number before q is below; 2 ^ 54 - q is the measure. Assumes nothing.
use Rattle.std.proofs.Common.{◌≡◌, ℕ, ◌+◌, ◌*◌, ◌%◌, ◌^◌, ◌<◌, ◌≤◌, mul-le-mul, lt_of_not-le, arith}
use Rattle.numbers.specs.Parts.{Above}
use Rattle.numbers.proofs.root.steps_up.Goals as goal

-- where over is below 0, q lies below 2 ^ 53
short : (m q over : ℕ) → m < 2 ^ 64 → over < 2 ^ 64 → q * (q + 1) + 2 ^ 64 ≡ m * 2 ^ 42 + over → q < 2 ^ 53
short m q over h l e = lt_of_not-le (λ (g : 2 ^ 53 ≤ q). let s = mul-le-mul g g in omega arith)

up : (m q over : ℕ) → over < 2 ^ 64 → 2 ^ 63 ≤ over → q < 2 ^ 53 → q * (q + 1) + 2 ^ 64 ≡ m * 2 ^ 42 + over →
    Above m (q + 1) ((over + (q + 1) * 2) % 2 ^ 64)
up m q over h l s e = (
  (λ (t : (over + (q + 1) * 2) % 2 ^ 64 < 2 ^ 63). omega arith),
  (λ (t : 2 ^ 63 ≤ (over + (q + 1) * 2) % 2 ^ 64). omega arith),
)

pub loop-over-init : goal.loop-over-init
loop-over-init c = (omega arith, omega arith, omega arith, omega (arith, c.ranges), c.requires.2, c.requires.3)

pub overflow_add-n : goal.overflow_add-n
overflow_add-n c = omega arith

pub overflow_add-q : goal.overflow_add-q
overflow_add-q c = omega arith

pub overflow_mul-q : goal.overflow_mul-q
overflow_mul-q c = omega arith

pub loop-over-preserved : goal.loop-over-preserved
loop-over-preserved c =
    let l = c.loop-over in
    let m = c.args.m in
    let e : l.q * (l.q + 1) + 2 ^ 64 ≡ m * 2 ^ 42 + l.over = l.invariant.4.1 c.loop-over-test.true in
    let s = short m l.q l.over (omega (arith, c.ranges)) (omega arith) e in
    let a = up m l.q l.over (omega arith) (omega arith) s e in
    (omega arith, omega arith, omega arith, omega arith, rw c.wrapping_add_u64-over.ensures.value a, omega arith)

pub returns : goal.returns
returns c =
    let l = c.loop-over in
    let e : l.q * (l.q + 1) ≡ c.args.m * 2 ^ 42 + l.over = l.invariant.4.0 c.loop-over-test.false in
    rw (← l.invariant.0) (omega arith, omega arith)

-- `numbers::root::form_of` meets its contract: a normal number's own form, and the form of any number by its digits and
-- their place. Assumes nothing.
use Rattle.std.proofs.Common.{◌≡◌, ℕ, ◌+◌, ◌-◌, ◌*◌, ◌/◌, ◌%◌, ◌^◌, ◌<◌, ◌≤◌, refl, arith}
use lib.Count.{count_leading_zeros}
use Rattle.numbers.specs.Parts.{Formed}
use Rattle.numbers.proofs.Scale.{Digits, scale, normal_digits}
use Rattle.numbers.proofs.Values.{Moved, moved}
use Rattle.numbers.proofs.root.form_of.Goals as goal

parity : (p x up : ℕ) → x + 52 ≡ p + 2 * up → x % 2 ≡ p % 2
parity p x up e = omega arith

-- the form that has the digits d where a normal number's stand, and 2 ^ up times as large a root
formed : (b d p x up f : ℕ) → Digits b d p → x + 52 ≡ p + 2 * up → f ≡ d + x * 2 ^ 52 → x < 2046 → up ≤ 256 →
    Formed b f up
formed b d p x up f h e g l t =
    let i : f / 2 ^ 52 - 1 ≡ x = omega (arith, h) in
    let q : f - x * 2 ^ 52 ≡ d = omega arith in
    let y : (f + 2 ^ 52) / 2 ^ 53 ≡ (x + 2) / 2 = omega (arith, h) in
    let k : (x + 2) / 2 + 510 - up ≡ p / 2 + 485 = omega arith in
    (omega (arith, h), omega (arith, h), t, rw (i, q, parity p x up e, y, k) (scale h).place)

up : (c : goal.Then-b-lt-FIELD) → Moved c.args.b (count_leading_zeros 64 c.args.b)
up c = moved c.args.b (omega arith) (omega arith)

pub returns-then-b-ge-LEAST : goal.returns-then-b-ge-LEAST
returns-then-b-ge-LEAST c =
    let b = c.args.b in
    let e = b / 2 ^ 52 - 1 in
    formed b (b - e * 2 ^ 52) (e + 52) e 0 b (normal_digits b e (omega arith) (omega arith)) (omega arith) (omega arith)
    (omega arith) (omega arith)

pub overflow_cast-z : goal.overflow_cast-z
overflow_cast-z c = omega (arith, up c)

pub overflow_sub-z : goal.overflow_sub-z
overflow_sub-z c = omega (arith, up c)

pub overflow_shl-result : goal.overflow_shl-result
overflow_shl-result c = omega (arith, up c)

pub overflow_sub-result : goal.overflow_sub-result
overflow_sub-result c = omega (arith, up c)

pub overflow_add-result : goal.overflow_add-result
overflow_add-result c = let u = up c in rw u.kept (omega (arith, u, u.digits))

pub returns-then-b-lt-FIELD : goal.returns-then-b-lt-FIELD
returns-then-b-lt-FIELD c =
    let b = c.args.b in
    let u = up c in
    let i = count_leading_zeros 64 b - 11 in
    rw u.kept
    (formed b (b * 2 ^ i) (52 - i) (512 - i) 256 _ u.digits (omega (arith, u)) refl (omega (arith, u)) (omega arith))

pub returns : goal.returns
returns c =
    let b = c.args.b in
    let e = b / 2 ^ 52 - 1 in
    formed b (b - e * 2 ^ 52) (e + 52) (e + 512) 256 _ (normal_digits b e (omega arith) (omega arith)) (omega arith)
    (omega arith) (omega arith) (omega arith)

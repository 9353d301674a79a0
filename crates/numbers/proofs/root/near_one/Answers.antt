-- `numbers::root::near_one` meets its contract: b is j * 2 or j * 2 + 1 units in the last place above 1, or as many
-- below it, where they are half as large, and j * j is small beside 2 ^ 52. Assumes nothing.
use Rattle.std.proofs.Common.{◌≡◌, ℕ, ◌+◌, ◌-◌, ◌*◌, ◌/◌, ◌%◌, ◌^◌, ◌<◌, ◌≤◌, refl, ap, ◌∙◌, mul-le-mul}
use Rattle.std.proofs.Common.{mul-le-mul_left, lt_of_not-le, arith}
use native.Mathlib.Decide.{dec_le}
use lib.Ieee.{binary64, of_bits}
use Rattle.numbers.specs.Root.{root_units}
use Rattle.numbers.specs.Parts.{Near, pattern_units}
use Rattle.numbers.proofs.Patterns.{within}
use Rattle.numbers.proofs.Scale.{root_bits, normal_scale}
use Rattle.numbers.proofs.root.near_one.Goals as goal

abbrev 1' : ℕ
1' = 0x3ff0_0000_0000_0000

module _ (j r q m : ℕ) (d : j ≤ 2 ^ 26) (h : r < 2) where
  near_above : q ≡ 2 ^ 52 + j → m ≡ 2 ^ 52 + 2 * j + r → Near (m * 2 ^ 52) q
  near_above e f = rw (e, f) (omega (arith, mul-le-mul_left j d))

  near_below : 1 ≤ j → q + j ≡ 2 * 2 ^ 52 → m + 4 * j ≡ 4 * 2 ^ 52 + 2 * r → Near (m * 2 ^ 52) q
  near_below i e f = at (2 ^ 52) e f (omega (arith, mul-le-mul d d)) (omega (arith, mul-le-mul_left j i))
    where
      -- over any u, since `omega` counts to 38 digits
      at : (u : ℕ) → q + j ≡ 2 * u → m + 4 * j ≡ 4 * u + 2 * r → j * j < 2 * (r * u) + q → 2 * (r * u) ≤ j * j + q →
          Near (m * u) q
      at u e f lo hi = omega (arith, ap (λ (y : ℕ). y * y) e, ap (λ (y : ℕ). y * j) e, ap (λ (y : ℕ). y * u) f)

-- the pattern v of the root, from the q of a normal number whose exponent's field is e + 1
root_of : (b e q v : ℕ) → b / 2 ^ 52 ≡ e + 1 → e < 2046 → Near ((b - e * 2 ^ 52) * (e % 2 + 1) * 2 ^ 52) q →
    v ≡ (e / 2 + 511) * 2 ^ 52 + q → of_bits binary64 v ≡ root_units (pattern_units b)
root_of b e q v h l n p =
    let s = normal_scale b e h l in
    ap (of_bits binary64) p ∙ root_bits _ _ q s.low s.high s.exponent n (pattern_units b) s.place

above : (b v : ℕ) → 1' ≤ b → b < 1' + 2 ^ 27 → v ≡ 1' + (b - 1') / 2 → of_bits binary64 v ≡ root_units (pattern_units b)
above b v l h p =
    let j = (b - 1') / 2 in
    root_of b 1022 (2 ^ 52 + j) v (omega arith) (omega arith)
    (near_above j ((b - 1') % 2) (2 ^ 52 + j) _ (omega arith) (omega arith) refl (omega arith))
    (omega arith)

below : (b v : ℕ) → b < 1' → 1' ≤ b + 2 ^ 27 → v ≡ 1' - (1' - b + 1) / 2 →
    of_bits binary64 v ≡ root_units (pattern_units b)
below b v l h p =
    let j = (1' - b + 1) / 2 in
    let near = near_below j ((1' - b) % 2) (2 ^ 53 - j) _ (omega arith) (omega arith) in
    root_of b 1021 (2 ^ 53 - j) v (omega arith) (omega arith)
    (near (omega arith) (omega arith) (omega arith))
    (omega arith)

pub float_from_bits-result : goal.float_from_bits-result
float_from_bits-result c = within _ (omega arith)

pub returns : goal.returns
returns c = elim (dec_le 1' c.args.b) [
  | yes l ↦ above c.args.b _ l (omega arith) (omega arith)
  | no l ↦ let g = lt_of_not-le l in below c.args.b _ g (omega arith) (omega arith)
]

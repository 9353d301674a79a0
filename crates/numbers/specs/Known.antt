-- The rules at known values: one list, which one theorem covers. A row has a rule's value and what it should be, both
-- by their bit patterns. Assumes nothing.
use Rattle.std.specs.Prelude.{ℕ, Bool, false, List, [], ◌∷◌, Float, if◌then◌else◌}
use Rattle.std.specs.Float.{nan, inf, binary64}
use Rattle.std.specs.Float.Ieee.{of_bits, to_bits, neg}
use Rattle.std.specs.Float.Ieee.Scale.{finite}
use Rattle.numbers.specs.Arithmetic.{◌+₆₄◌, ◌-₆₄◌, ◌*₆₄◌, ◌/₆₄◌, ◌<₆₄◌, ◌≤₆₄◌, decimal, 0f, ½, 1f}
use Rattle.numbers.specs.Arithmetic.{1½, 2f, 4f, 1e-4, 1e-7, 1e-11, 1e-12, 1e-14, 1e-15, 1e-30}
use Rattle.numbers.specs.Basic.{magnitude, larger, clamped, infinite}
use Rattle.numbers.specs.Root.{root}

pub record Row : Type 0 where
  pub rule : ℕ
  pub known : ℕ

infix 40 ◌is◌
abbrev pub ◌is◌ : Float → ℕ → Row
x is b = record { rule = to_bits binary64 x; known = b }

abbrev pub rules : List Row → List ℕ
rules [] = []
rules (r ∷ l) = r.rule ∷ rules l

abbrev pub knowns : List Row → List ℕ
knowns [] = []
knowns (r ∷ l) = r.known ∷ knowns l

-- the number whose pattern is b
abbrev pub bits : ℕ → Float
bits b = of_bits binary64 b

abbrev pub -0f : Float
-0f = neg 0f

abbrev pub ∞ : Float
∞ = inf false

-- a test's outcome as a number
abbrev pub yes? : Bool → Float
yes? t = if t then 1f else 0f

unfoldable pub rows : List Row
rows =
    -- roots of 4, 2, the smallest number above zero, 3 times it, the largest; of -0, +infinity, -1 and NaN; of 1's
    -- neighbours below and above
    (root 4f is 0x4000_0000_0000_0000) ∷
    (root 2f is 0x3ff6_a09e_667f_3bcd) ∷
    (root (bits 1) is 0x1e60_0000_0000_0000) ∷
    (root (bits 3) is 0x1e6b_b67a_e858_4caa) ∷
    (root (bits 0x7fef_ffff_ffff_ffff) is 0x5fef_ffff_ffff_ffff) ∷
    (root -0f is 0x8000_0000_0000_0000) ∷
    (root ∞ is 0x7ff0_0000_0000_0000) ∷
    (root (neg 1f) is 0x7ff8_0000_0000_0000) ∷
    (root nan is 0x7ff8_0000_0000_0000) ∷
    (root (bits 0x3fef_ffff_ffff_ffff) is 0x3fef_ffff_ffff_ffff) ∷
    (root (bits 0x3ff0_0000_0000_0001) is 0x3ff0_0000_0000_0000) ∷
    -- the maximum: NaN gives way to a number, mixed zeros give +0, two of a kind stay
    (larger nan 0f is 0x0000_0000_0000_0000) ∷
    (larger -0f nan is 0x8000_0000_0000_0000) ∷
    (larger nan nan is 0x7ff8_0000_0000_0000) ∷
    (larger -0f 0f is 0x0000_0000_0000_0000) ∷
    (larger 0f -0f is 0x0000_0000_0000_0000) ∷
    (larger -0f -0f is 0x8000_0000_0000_0000) ∷
    (larger (neg 2f) (neg 1f) is 0xbff0_0000_0000_0000) ∷
    (larger ∞ 1f is 0x7ff0_0000_0000_0000) ∷
    -- the clamp: NaN and -0 stay
    (clamped nan is 0x7ff8_0000_0000_0000) ∷
    (clamped -0f is 0x8000_0000_0000_0000) ∷
    (clamped (neg (bits 1)) is 0x0000_0000_0000_0000) ∷
    (clamped ½ is 0x3fe0_0000_0000_0000) ∷
    (clamped 1½ is 0x3ff0_0000_0000_0000) ∷
    (clamped ∞ is 0x3ff0_0000_0000_0000) ∷
    -- magnitudes and kinds
    (magnitude -0f is 0x0000_0000_0000_0000) ∷
    (magnitude (neg ∞) is 0x7ff0_0000_0000_0000) ∷
    (magnitude nan is 0x7ff8_0000_0000_0000) ∷
    (yes? (infinite (neg ∞)) is 0x3ff0_0000_0000_0000) ∷
    (yes? (infinite nan) is 0x0000_0000_0000_0000) ∷
    (yes? (finite nan) is 0x0000_0000_0000_0000) ∷
    (yes? (finite -0f) is 0x3ff0_0000_0000_0000) ∷
    -- operators: each rounds once, and no comparison holds of a NaN
    (1e-4 +₆₄ 1e-7 is 0x3f1a_3d98_e7c2_f259) ∷
    (1f -₆₄ 1e-15 is 0x3fef_ffff_ffff_fff7) ∷
    (1e-7 *₆₄ 1e-7 is 0x3d06_849b_86a1_2b9a) ∷
    (1f /₆₄ decimal 10 0 is 0x3fb9_9999_9999_999a) ∷
    (yes? (-0f <₆₄ 0f) is 0x0000_0000_0000_0000) ∷
    (yes? (-0f ≤₆₄ 0f) is 0x3ff0_0000_0000_0000) ∷
    (yes? (nan ≤₆₄ nan) is 0x0000_0000_0000_0000) ∷
    -- the numbers that the sources write
    (1e-4 is 0x3f1a_36e2_eb1c_432d) ∷
    (1e-7 is 0x3e7a_d7f2_9abc_af48) ∷
    (1e-11 is 0x3da5_fd7f_e179_6495) ∷
    (1e-12 is 0x3d71_9799_812d_ea11) ∷
    (1e-14 is 0x3d06_849b_86a1_2b9b) ∷
    (1e-15 is 0x3cd2_03af_9ee7_5616) ∷
    (1e-30 is 0x39b4_484b_feeb_c2a0) ∷ []

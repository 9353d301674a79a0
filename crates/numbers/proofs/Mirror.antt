-- Arithmetic has a mirror image: operands with other signs have results with other signs, and are as far apart.
-- Assumes nothing.
use Rattle.std.proofs.Common.{◌≡◌, ℕ, zero, suc, ◌-◌, ◌*◌, ◌^◌, ◌<◌, Bool, true, false, cond, ltb, sym, refl, ap, ◌∙◌}
use Rattle.std.proofs.Common.{arith}
use mathlib.Core.Bool.{not-not}
use lib.Dec.{eqb-suc-zero}
use lib.Ieee.{Float, nan, inf, fin, binary64, up, down, odd, units, round, neg, sum, sub, mul, div}
use lib.Ieee.Fits.{round_is}
use lib.Ieee.Positive.{num}
use Rattle.numbers.specs.Basic.{magnitude}
use Rattle.numbers.proofs.Plain.{Plain, plain}

pub neg_twice : (x : Float) → neg (neg x) ≡ x
unfolding neg
neg_twice nan = refl
neg_twice (inf s) = ap inf (not-not s)
neg_twice (fin s m e) = ap (λ (t : Bool). fin t m e) (not-not s)

-- ---- what rounding does with a sign

pub data Rounded : Float → Type 0 where
  number : {x : Float} → Plain x → Rounded x
  overflow : Rounded (inf false)

-- a number or infinity, and with a minus sign its mirror image
abbrev Signed : Float → Float → Type 0
Signed x y = Rounded x × (y ≡ neg x)

odd_signed : (b : Bool) (q k : ℕ) →
    Signed (cond b (odd 54 false q k 1074) (inf false)) (cond b (odd 54 true q k 1074) (inf true))
unfolding neg odd
odd_signed true zero k = (number (plain _ _), refl)
odd_signed true (suc q) k = (number (plain _ _), refl)
odd_signed false q k = (overflow, refl)

units_signed : (q k : ℕ) → Signed (units binary64 false q k) (units binary64 true q k)
unfolding units
units_signed q k = odd_signed (ltb (q * 2 ^ k) (2 ^ 2098)) q k

signed : (a b : ℕ) → Signed (round binary64 false a b) (round binary64 true a b)
signed a b = simp round_is (units_signed _ _)

pub rounded : (a b : ℕ) → Rounded (round binary64 false a b)
rounded a b = (signed a b).0

round_neg : (a b : ℕ) → round binary64 true a b ≡ neg (round binary64 false a b)
round_neg a b = (signed a b).1

magnitudes : {x : Float} → Rounded x → (magnitude x ≡ x) × (magnitude (neg x) ≡ x)
unfolding magnitude neg
magnitudes (number (plain m e)) = (refl, refl)
magnitudes overflow = (refl, refl)

pub round_magnitude : (s : Bool) (a b : ℕ) → magnitude (round binary64 s a b) ≡ round binary64 false a b
round_magnitude true a b = ap magnitude (round_neg a b) ∙ (magnitudes (rounded a b)).1
round_magnitude false a b = (magnitudes (rounded a b)).0

-- ---- the operations

pub mul_neg : {x y : Float} → Plain x → Plain y → mul binary64 (neg x) y ≡ neg (mul binary64 x y)
unfolding mul neg
mul_neg (plain m e) (plain n d) = round_neg (m * up e * (n * up d)) (down e * down d)

pub div_neg : {x y : Float} → Plain x → Plain y → 0 < num y → div binary64 (neg x) y ≡ neg (div binary64 x y)
unfolding div neg
div_neg (plain m e) (plain zero d) h = absurd (omega arith)
div_neg (plain m e) (plain (suc n) d) h = rw (eqb-suc-zero n) (round_neg (m * up e * down d) (suc n * up d * down e))

swapped : (b s : Bool) (i j k : ℕ) →
    magnitude (cond b (round binary64 false i k) (round binary64 s j k))
    ≡ magnitude (cond b (round binary64 true i k) (round binary64 false j k))
swapped true s i j k = round_magnitude false i k ∙ sym (round_magnitude true i k)
swapped false s i j k = round_magnitude s j k ∙ sym (round_magnitude false j k)

pub sub_neg : {x y : Float} → Plain x → Plain y →
    magnitude (sub binary64 (neg x) (neg y)) ≡ magnitude (sub binary64 x y)
unfolding sub sum neg
sub_neg (plain m e) (plain n d) =
    let a = m * up e * down d in
    let b = n * up d * down e in
    swapped (ltb a b) (ltb b a) (b - a) (a - b) (down e * down d)

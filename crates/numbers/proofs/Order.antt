-- Numbers without a minus sign, infinity among them: of two that differ, one is below the other. Assumes nothing.
use Rattle.std.proofs.Common.{◌≡◌, ℕ, ◌+◌, ◌-◌, ◌*◌, ◌/◌, ◌^◌, true, false, T, sym, refl, ap, ◌∙◌, true≢false, le_refl}
use Rattle.std.proofs.Common.{le_of_lt, le_antisymm, arith}
use mathlib.Core.Bool.{false≢true}
use lib.Ieee.{Float, nan, inf, fin, binary64, size, fits, of_bits, to_bits, lt, is_nan}
use lib.Ieee.Positive.{num, den, den_pos}
use lib.Ieee.Nearest.{div_same}
use lib.Ieee.Bits.{of_bits-to_bits}
use Rattle.numbers.specs.Arithmetic.{decimal, ◌<₆₄◌, 0f}
use Rattle.numbers.specs.Basic.{larger, negative}
use Rattle.numbers.proofs.Plain.{Plain, plain, below, at_most, not_below}
use Rattle.numbers.proofs.Signs.{Positive, infinity, plus, exceeding}
use Rattle.numbers.proofs.Finite.{top}
use Rattle.numbers.proofs.Choice.{either, by_test}

pub data Unsigned : Float → Type 0 where
  infinite : Unsigned (inf false)
  finite : {x : Float} → Plain x → Unsigned x

pub not_itself : {x : Float} → Unsigned x → lt x x ≡ false
not_itself infinite = top (inf false)
not_itself (finite p) = not_below p p (le_refl _)

pub one_way : {x y : Float} → Unsigned x → Unsigned y → lt x y ≡ true → lt y x ≡ false
one_way {y = y} infinite v h = absurd (false≢true (sym (top y) ∙ h))
one_way {x} (finite p) infinite h = top x
one_way (finite p) (finite q) h = not_below q p (le_of_lt (below p q h))

scaled : (a b c d p : ℕ) → a * d ≡ b * c → a * p * d ≡ b * p * c
scaled a b c d p h = omega (arith, ap (λ (k : ℕ). k * p) h)

same_pattern : {x y : Float} → Plain x → Plain y → num x * den y ≡ num y * den x →
    to_bits binary64 x ≡ to_bits binary64 y
unfolding to_bits
same_pattern {x} {y} (plain m e) (plain n d) h =
    ap (λ (k : ℕ). 0 + (size k - 53) * 2 ^ 52 + k / 2 ^ (size k - 53))
    (div_same (num x * 2 ^ 1074) (den x) (num y * 2 ^ 1074) (den y) (den_pos x) (den_pos y)
    (scaled (num x) (num y) (den x) (den y) (2 ^ 1074) h))

pub level : {x y : Float} → T (fits binary64 x) → T (fits binary64 y) → Unsigned x → Unsigned y →
    lt x y ≡ false → lt y x ≡ false → x ≡ y
unfolding lt
level f g infinite infinite h k = refl
level f g infinite (finite (plain n d)) h k = absurd (true≢false k)
level f g (finite (plain m e)) infinite h k = absurd (true≢false h)
level {x} {y} f g (finite p) (finite q) h k =
    sym (of_bits-to_bits binary64 x f)
    ∙ ap (of_bits binary64) (same_pattern p q (le_antisymm (at_most q p k) (at_most p q h)))
    ∙ of_bits-to_bits binary64 y g

-- ---- what is raised to at least 0

not_negative : (x : Float) → is_nan x ≡ false → negative x ≡ false → Unsigned x
unfolding is_nan negative
not_negative nan h k = absurd (true≢false h)
not_negative (inf true) h k = absurd (true≢false k)
not_negative (inf false) h k = infinite
not_negative (fin true m e) h k = absurd (true≢false k)
not_negative (fin false m e) h k = finite (plain m e)

of_positive : {x : Float} → Positive x → Unsigned x
of_positive infinity = infinite
of_positive (plus m e) = finite (plain _ e)

zero : Unsigned 0f
unfolding decimal
zero = finite (plain _ _)

pub raised : (x : Float) → Unsigned (larger x 0f)
unfolding larger is_nan decimal
raised x =
    by_test Unsigned (is_nan x) 0f _ (λ h. zero) (λ h.
    either Unsigned (x <₆₄ 0f) 0f _ zero
    (by_test Unsigned (0f <₆₄ x) x _ (λ k. of_positive (exceeding x (plain _ _) k)) (λ k.
    by_test Unsigned (negative x) 0f x (λ n. zero) (λ n. not_negative x h n))))

pub raised_fits : (x : Float) → T (fits binary64 x) → T (fits binary64 (larger x 0f))
unfolding larger is_nan decimal fits
raised_fits x f =
    let held : Float → Type 0 = λ y. T (fits binary64 y) in
    either held (is_nan x) 0f _ tt
    (either held (x <₆₄ 0f) 0f _ tt
    (either held (0f <₆₄ x) x _ f
    (either held (negative x) 0f x tt f)))

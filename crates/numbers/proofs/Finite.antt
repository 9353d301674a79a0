-- What shows that a number above zero is finite: infinity is below nothing, and neither is what it gives.
-- Assumes nothing.
use Rattle.std.proofs.Common.{◌≡◌, Bool, true, false, cond, T, eqb, sym, refl, ◌∙◌}
use mathlib.Core.Bool.{false≢true}
use lib.Ieee.{Float, nan, inf, fin, binary64, add, sub, mul, lt}
use lib.Ieee.Positive.{positive}
use Rattle.numbers.proofs.Plain.{Plain, plain, some}
use Rattle.numbers.proofs.Signs.{Positive, infinity, plus}

pub top : (x : Float) → lt (inf false) x ≡ false
unfolding lt
top nan = refl
top (inf s) = refl
top (fin s m e) = refl

top_product : (b : Bool) (x : Float) → lt (cond b nan (inf false)) x ≡ false
unfolding lt
top_product true x = refl
top_product false x = top x

pub finite_number : {x : Float} (z : Float) → Positive x → lt x z ≡ true → T (positive x)
finite_number z infinity h = absurd (false≢true (sym (top z) ∙ h))
finite_number z (plus m e) h = some m

pub finite_factor : {x y : Float} (z : Float) → Positive x → Plain y → lt (mul binary64 x y) z ≡ true → T (positive x)
unfolding mul
finite_factor z infinity (plain n d) h = absurd (false≢true (sym (top_product (eqb n 0) z) ∙ h))
finite_factor z (plus m e) q h = some m

pub finite_minuend : {x y : Float} (z : Float) → Positive x → Plain y → lt (sub binary64 x y) z ≡ true → T (positive x)
unfolding sub
finite_minuend z infinity (plain n d) h = absurd (false≢true (sym (top z) ∙ h))
finite_minuend z (plus m e) q h = some m

pub finite_summand : {x y : Float} (z : Float) → Positive x → Plain y → lt (add binary64 y x) z ≡ true → T (positive x)
unfolding add
finite_summand z infinity (plain n d) h = absurd (false≢true (sym (top z) ∙ h))
finite_summand z (plus m e) q h = some m

-- Numbers that are finite and have no minus sign: their order is that of fractions. Assumes nothing.
use Rattle.std.proofs.Common.{◌≡◌, ℕ, suc, ◌*◌, ◌<◌, ◌≤◌, Bool, true, false, ◌&&◌, ◌||◌, T, eqb, ltb, ℤ, refl, le_of_eq}
use Rattle.std.proofs.Common.{le_of_lt, zero-lt-suc, lt_of_not-le, not-le_of_lt, eqb→eq, ltb→lt, lt→ltb, ltb-false}
use Rattle.std.proofs.Common.{ltb-true, le-ltb, lt-ltb}
use lib.Ieee.{Float, nan, inf, fin, up, down, neg, lt, le}
use lib.Ieee.Scale.{finite}
use lib.Ieee.Positive.{num, den, positive, den_pos, first_pos, through}
use Rattle.numbers.specs.Basic.{magnitude}

pub data Plain : Float → Type 0 where
  plain : (m : ℕ) (e : ℤ) → Plain (fin false m e)

pub plain_finite : {x : Float} → Plain x → finite x ≡ true
plain_finite (plain m e) = refl

pub minus_finite : {x : Float} → Plain x → finite (neg x) ≡ true
unfolding neg
minus_finite (plain m e) = refl

pub plain_magnitude : {x : Float} → Plain x → magnitude x ≡ x
unfolding magnitude
plain_magnitude (plain m e) = refl

-- ---- the order

abbrev pub AtMost : Float → Float → Type 0
AtMost x y = num x * den y ≤ num y * den x

pub chain : (x y z : Float) → AtMost x y → AtMost y z → AtMost x z
chain x y z = through (num x) (num y) (num z) (den x) (den y) (den z) (den_pos y)

pub below : {x y : Float} → Plain x → Plain y → lt x y ≡ true → num x * den y < num y * den x
unfolding lt
below (plain m e) (plain n d) h = ltb-true (m * up e * down d) (n * up d * down e) h

pub at_most : {x y : Float} → Plain x → Plain y → lt x y ≡ false → AtMost y x
unfolding lt
at_most (plain m e) (plain n d) h = ltb-false (m * up e * down d) (n * up d * down e) h

pub not_below : {x y : Float} → Plain x → Plain y → AtMost y x → lt x y ≡ false
unfolding lt
not_below (plain m e) (plain n d) h = le-ltb (m * up e * down d) (n * up d * down e) h

le_of_either : (a b : ℕ) (s t : Bool) → (T s → a < b) → (T t → a ≡ b) → T (s || (t && true)) → a ≤ b
le_of_either a b true t f g h = le_of_lt (f tt)
le_of_either a b false true f g h = le_of_eq (g tt)
le_of_either a b false false f g h = elim h [ ]

pub of_le : {x y : Float} → Plain x → Plain y → T (le x y) → AtMost x y
unfolding le
of_le (plain m e) (plain n d) h =
    let a = m * up e * down d in
    let b = n * up d * down e in
    le_of_either a b (ltb a b) (eqb a b) (ltb→lt a b) (eqb→eq a b) h

pub clash : {x y : Float} → Plain x → Plain y → lt x y ≡ true → T (le y x) → ⊥
clash p q h k = not-le_of_lt (below p q h) (of_le q p k)

pub below_at_most : {x y z : Float} → Plain x → Plain y → Plain z → lt x y ≡ true → AtMost y z → lt x z ≡ true
unfolding lt
below_at_most {x} {y} {z} (plain m e) q (plain l c) h k =
    lt-ltb (m * up e * down c) (l * up c * down e)
    (lt_of_not-le (λ (g : AtMost z x). not-le_of_lt (below (plain m e) q h) (chain y z x k g)))

pub at_most_below : {x y : Float} (z : Float) → Plain x → Plain y → AtMost x y → lt y z ≡ true → lt x z ≡ true
unfolding lt
at_most_below nan (plain m e) (plain n d) h k = k
at_most_below (inf s) (plain m e) (plain n d) h k = k
at_most_below (fin true l c) (plain m e) (plain n d) h k = k
at_most_below {x} {y} (fin false l c) (plain m e) (plain n d) h k =
    let z = fin false l c in
    lt-ltb (m * up e * down c) (l * up c * down e)
    (lt_of_not-le (λ (g : AtMost z x). not-le_of_lt (below (plain n d) (plain l c) k) (chain z x y g h)))

-- ---- those above zero

pub some : (m : ℕ) → T (ltb 0 (suc m))
some m = lt→ltb 0 (suc m) (zero-lt-suc m)

pub of_positive : (x : Float) → T (positive x) → Plain x
of_positive nan p = elim p [ ]
of_positive (inf _) p = elim p [ ]
of_positive (fin true m e) p = elim p [ ]
of_positive (fin false m e) p = plain m e

pub above_zero : {x : Float} → Plain x → 0 < num x → T (positive x)
above_zero (plain m e) h = lt→ltb 0 m (first_pos m (up e) h)

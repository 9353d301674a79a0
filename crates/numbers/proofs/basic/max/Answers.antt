-- `numbers::max` meets its contract: each way out is a line of `larger`. Assumes nothing.
use Rattle.std.proofs.Common.{◌≡◌, ℕ, ◌+◌, ◌/◌, ◌^◌, ◌<◌, Bool, true, false, cond, not, T, sym, refl, ◌∙◌, arith}
use mathlib.Core.Bool.{false≢true}
use denote.Floats.{passes}
use lib.Ieee.{Float, nan, inf, fin, is_nan, lt}
use Rattle.numbers.specs.Basic.{larger, negative}
use Rattle.numbers.proofs.Floats.{Signed, signed}
use Rattle.numbers.proofs.basic.max.Goals as goal
use Rattle.numbers.proofs.basic.max.Goals.{Else-is_nan, Else-is_nan-2}

ordered : (x y : Float) → lt x y ≡ true → (is_nan x ≡ false) × (is_nan y ≡ false)
unfolding lt is_nan
ordered nan y h = absurd (false≢true h)
ordered (inf s) nan h = absurd (false≢true h)
ordered (inf s) (inf t) h = (refl, refl)
ordered (inf s) (fin t n d) h = (refl, refl)
ordered (fin s m e) nan h = absurd (false≢true h)
ordered (fin s m e) (inf t) h = (refl, refl)
ordered (fin s m e) (fin t n d) h = (refl, refl)

-- the sign from the pattern's first digit
minus : (s : Bool) (b d : ℕ) → b ≡ cond s (2 ^ 63) 0 + d → d < 2 ^ 63 → b / 2 ^ 63 ≡ 1 → s ≡ true
minus true b d e l h = refl
minus false b d e l h = absurd (omega arith)

plus : (s : Bool) (b d : ℕ) → b ≡ cond s (2 ^ 63) 0 + d → d < 2 ^ 63 → (b / 2 ^ 63 ≡ 1 → ⊥) → s ≡ false
plus true b d e l h = absurd (h (omega arith))
plus false b d e l h = refl

first : (c : Else-is_nan) → is_nan c.args.x ≡ false
first c = sym c.is_nan.ensures ∙ c.if-is_nan.false

second : (c : Else-is_nan-2) → is_nan c.args.y ≡ false
second c = sym c.is_nan-2.ensures ∙ c.if-is_nan-2.false

number : (c : Else-is_nan) → T (not (is_nan c.args.x))
number c = rw (first c) tt

sign : (c : Else-is_nan) → Signed c.args.x
sign c = signed c.args.x (passes _ c.well_formed.0.1) (number c)

pub returns-then-x-y : goal.returns-then-x-y
unfolding larger
returns-then-x-y c = let o = ordered c.args.x c.args.y c.if-x-y.true in rw (o.0, o.1, c.if-x-y.true)

pub returns-then-y-x : goal.returns-then-y-x
unfolding larger
returns-then-y-x c =
    let o = ordered c.args.y c.args.x c.if-y-x.true in
    rw (o.1, o.0, c.if-x-y.false, c.if-y-x.true)

pub returns-then-is_nan : goal.returns-then-is_nan
unfolding larger
returns-then-is_nan c = rw (sym c.is_nan.ensures ∙ c.if-is_nan.true)

pub returns-then-is_nan-2 : goal.returns-then-is_nan-2
unfolding larger
returns-then-is_nan-2 c = rw (first (goal.at.returns-then-is_nan-2 c).Else-is_nan, sym c.is_nan-2.ensures ∙ c.if-is_nan-2.true)

pub float_to_bits-x : goal.float_to_bits-x
float_to_bits-x c = number (goal.at.float_to_bits-x c).Else-is_nan

pub returns-then-x-eq1 : goal.returns-then-x-eq1
unfolding larger
returns-then-x-eq1 c =
    let at = goal.at.returns-then-x-eq1 c in
    let s = sign at.Else-is_nan in
    let n : negative c.args.x ≡ true = minus _ _ _ s.whole s.digits c.if-x-eq1.true in
    rw (first at.Else-is_nan, second at.Else-is_nan-2, c.if-x-y.false, c.if-y-x.false, n)

pub returns-else-x-eq1 : goal.returns-else-x-eq1
unfolding larger
returns-else-x-eq1 c =
    let at = goal.at.returns-else-x-eq1 c in
    let s = sign at.Else-is_nan in
    let n : negative c.args.x ≡ false = plus _ _ _ s.whole s.digits c.if-x-eq1.false in
    rw (first at.Else-is_nan, second at.Else-is_nan-2, c.if-x-y.false, c.if-y-x.false, n)

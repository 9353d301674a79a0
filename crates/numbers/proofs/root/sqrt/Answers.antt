-- `numbers::root::sqrt` meets its contract: by the sign of x, and above zero by its pattern. Assumes nothing.
use Rattle.std.proofs.Common.{◌≡◌, zero, suc, ◌*◌, ◌<◌, ◌≤◌, true, false, ◌||◌, T, eqb, sym, refl, ap, ◌∙◌, true≢false}
use Rattle.std.proofs.Common.{zero-lt-suc, mul-pos, zero-mul, arith, ltb-false, eqb-true}
use Prim.Native.Nat.compare
use mathlib.Core.Bool.{beq, false≢true, and-eq-true_iff}
use denote.Floats.{passes}
use lib.Ieee.{Float, nan, inf, fin, binary64, fits, lt, eq, mul, div, of_bits, to_bits, up, down}
use lib.Ieee.Fits.{up_pos}
use Rattle.numbers.specs.Root.{root, root_units}
use Rattle.numbers.specs.Parts.{pattern_units}
use Rattle.numbers.proofs.Signs.{Positive, infinity, plus, positive, no_nan}
use Rattle.numbers.proofs.Values.{units_pattern, bits_lt, bits_pos}
use Rattle.numbers.proofs.root.sqrt.Goals as goal
use Rattle.numbers.proofs.root.sqrt.Goals.{Then-x}

of_zero : (x : Float) → eq x (of_bits binary64 0) ≡ true → x ≡ root x
unfolding eq of_bits root
of_zero nan h = refl
of_zero (inf s) h = absurd (false≢true h)
of_zero (fin s zero e) h = refl
of_zero (fin s (suc m) e) h =
    let a = suc m * up e * 1 in
    let t = ((and-eq-true_iff (eqb a (0 * 1 * down e)) (beq s false || eqb a 0)).0 h).0 in
    let p = mul-pos (zero-lt-suc m) (up_pos e) in
    absurd (omega (arith, eqb-true a (0 * 1 * down e) t))

-- a number below zero has no root, nor has NaN
of_other : (x : Float) → lt (of_bits binary64 0) x ≡ false → eq x (of_bits binary64 0) ≡ false →
    mul binary64 (div binary64 x (of_bits binary64 0)) (of_bits binary64 0) ≡ root x
unfolding lt eq mul div of_bits root
of_other nan h k = refl
of_other (inf true) h k = refl
of_other (inf false) h k = absurd (true≢false h)
of_other (fin true zero e) h k = absurd (true≢false (rw (zero-mul (up e), zero-mul (down e)) at k))
of_other (fin false zero e) h k = absurd (true≢false (rw (zero-mul (up e), zero-mul (down e)) at k))
of_other (fin true (suc m) e) h k = rw (compare.suc-zero m)
of_other (fin false (suc m) e) h k =
    let p = mul-pos (zero-lt-suc m) (up_pos e) in
    absurd (omega (arith, ltb-false (0 * 1 * down e) (suc m * up e * 1) h))

of_infinite : {x : Float} → Positive x → T (fits binary64 x) → 0x7ff0_0000_0000_0000 ≤ to_bits binary64 x → x ≡ root x
unfolding root
of_infinite infinity h l = refl
of_infinite (plus m e) h l = absurd (omega (arith, bits_lt m e h))

of_finite : {x : Float} → Positive x → T (fits binary64 x) → to_bits binary64 x < 0x7ff0_0000_0000_0000 →
    root_units (pattern_units (to_bits binary64 x)) ≡ root x
unfolding root to_bits
of_finite infinity h l = absurd (omega arith)
of_finite (plus m e) h l = ap root_units (sym (units_pattern _ h l))

-- the pattern of a number above zero is above 0, and at most infinity's
range : {x : Float} → Positive x → T (fits binary64 x) →
    (0 < to_bits binary64 x) × (to_bits binary64 x ≤ 0x7ff0_0000_0000_0000)
unfolding to_bits
range infinity h = omega arith
range (plus m e) h = (bits_pos m e h, omega (arith, bits_lt m e h))

-- what owning an `f64` tells: the format holds it
held : (c : Then-x) → T (fits binary64 c.args.x)
held c = passes _ c.well_formed.0.1

above : (c : Then-x) → Positive c.args.x
above c = positive c.args.x c.if-x.true

within : (c : Then-x) →
    let b = to_bits binary64 c.args.x in (0 < b) × (b ≤ 0x7ff0_0000_0000_0000)
within c = range (above c) (held c)

finite : (c : Then-x) →
    let x = c.args.x in
    to_bits binary64 x < 0x7ff0_0000_0000_0000 → root_units (pattern_units (to_bits binary64 x)) ≡ root x
finite c = of_finite (above c) (held c)

pub float_to_bits-b : goal.float_to_bits-b
float_to_bits-b c = no_nan (above (goal.at.float_to_bits-b c).Then-x)

pub returns-then-wrapping_sub_u64-lt268435456 : goal.returns-then-wrapping_sub_u64-lt268435456
returns-then-wrapping_sub_u64-lt268435456 c =
    c.near_one.ensures ∙ finite (goal.at.returns-then-wrapping_sub_u64-lt268435456 c).Then-x (omega arith)

pub form_of-f-requires : goal.form_of-f-requires
form_of-f-requires c = omega (arith, within (goal.at.form_of-f-requires c).Then-x)

pub float_of-requires : goal.float_of-requires
float_of-requires c = c.form_of-f.ensures.1

pub start-requires : goal.start-requires
start-requires c = c.form_of-f.ensures.1

pub root_of-requires : goal.root_of-requires
root_of-requires c = let f = c.form_of-f.ensures in (f.0, f.1, f.2)

pub returns-then-b-lt-INFINITY : goal.returns-then-b-lt-INFINITY
returns-then-b-lt-INFINITY c =
    let b = to_bits binary64 c.args.x in
    c.root_of.ensures (pattern_units b) c.form_of-f.ensures.3
    ∙ finite (goal.at.returns-then-b-lt-INFINITY c).Then-x (omega arith)

pub returns-then-x : goal.returns-then-x
returns-then-x c =
    let p = (goal.at.returns-then-x c).Then-x in
    of_infinite (above p) (held p) (omega arith)

pub returns-then-x-2 : goal.returns-then-x-2
returns-then-x-2 c = of_zero c.args.x c.if-x-2.true

pub returns : goal.returns
returns c = of_other c.args.x c.if-x.false c.if-x-2.false

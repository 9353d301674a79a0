-- `numbers::abs` meets its contract: 0 less a number that is not above it is its magnitude. Assumes nothing.
use Rattle.std.proofs.Common.{◌≡◌, ℕ, zero, suc, ◌+◌, ◌-◌, ◌*◌, true, false, T, ℤ, pos, negsuc, refl, ap, ◌∙◌}
use Rattle.std.proofs.Common.{true≢false, zero-lt-suc, mul-pos, arith, eqb→eq, pow_mono, ltb-false, le-ltb}
use denote.Floats.{passes}
use lib.Ieee.{Float, nan, inf, fin, binary64, up, down, fits, of_bits, round, sum, add, sub, neg, lt}
use lib.Ieee.Fits.{down_pos, up_pos}
use lib.Ieee.Scale.{round_same}
use Rattle.numbers.specs.Basic.{magnitude}
use Rattle.numbers.proofs.Rounds.{own}
use Rattle.numbers.proofs.Signs.{Positive, infinity, plus, positive}
use Rattle.numbers.proofs.basic.abs.Goals as goal

above : {x : Float} → Positive x → x ≡ magnitude x
unfolding magnitude
above infinity = refl
above (plus m e) = refl

-- a zero's exponent is 0
one_zero : (e : ℤ) → up e * down e ≡ 1 → pos 0 ≡ e
one_zero (pos zero) h = refl
one_zero (pos (suc k)) h = absurd (omega (arith, pow_mono {i = 1} {j = suc k} (omega arith)))
one_zero (negsuc k) h = absurd (omega (arith, pow_mono {i = 1} {j = suc k} (omega arith)))

nothing : (a : ℕ) (e : ℤ) → a ≡ 0 → T (fits binary64 (fin false zero e)) →
    round binary64 false a (1 * down e) ≡ fin false zero e
unfolding round fits
nothing a e z h =
    let p = down_pos e in
    round_same binary64 false a (1 * down e) 0 1 (omega arith) (omega arith) (omega arith)
    ∙ ap (fin false zero) (one_zero e (eqb→eq (up e * down e) 1 h))

less : (x : Float) → T (fits binary64 x) → lt (of_bits binary64 0) x ≡ false →
    sub binary64 (of_bits binary64 0) x ≡ magnitude x
unfolding sub add neg sum lt fits magnitude of_bits
less nan h k = refl
less (inf true) h k = refl
less (inf false) h k = absurd (true≢false k)
less (fin true zero e) h k = nothing (0 * down e + 0 * up e * 1) e (omega arith) h
less (fin false zero e) h k =
    rw (le-ltb (0 * down e) (0 * up e * 1) (omega arith)) (nothing (0 * down e - 0 * up e * 1) e (omega arith) h)
less (fin true (suc m) e) h k =
    let p = down_pos e in
    let a = 0 * down e + suc m * up e * 1 in
    round_same binary64 false a (1 * down e) (suc m * up e) (down e) (omega arith) (omega arith) (omega arith)
    ∙ own m e h
less (fin false (suc m) e) h k =
    let p = mul-pos (zero-lt-suc m) (up_pos e) in
    absurd (omega (arith, ltb-false (0 * 1 * down e) (suc m * up e * 1) k))

pub returns-then-x : goal.returns-then-x
returns-then-x c = above (positive c.args.x c.if-x.true)

pub returns-else-x : goal.returns-else-x
returns-else-x c = less c.args.x (passes _ c.well_formed.0.1) c.if-x.false

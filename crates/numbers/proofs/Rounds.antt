-- A number above zero is its units over 2 ^ 1074, and that fraction, or its own, rounds to it. Assumes nothing.
use Rattle.std.proofs.Common.{◌≡◌, ℕ, zero, suc, ◌*◌, ◌^◌, true, false, T, ℤ, ap, ◌∙◌, pow_pos}
use lib.Ieee.{Float, nan, inf, fin, binary64, up, down, fits, round}
use lib.Ieee.Exact.{HasValue, round_exact}
use lib.Ieee.Fits.{down_pos, round-fits}
use lib.Ieee.Positive.{positive_of_value, value_pos}
use lib.Ieee.Scale.{round_same}
use Rattle.numbers.specs.Basic.{negative}
use Rattle.numbers.specs.Root.{units, AboveZero}
use Rattle.numbers.proofs.Nearest.{split, units_split, units_exact, same_units}
use Rattle.numbers.proofs.Plain.{some}
use Rattle.numbers.proofs.Values.{units_lt, units_of}

pub value : (x : Float) → AboveZero x → HasValue x false (units x) (2 ^ 1074)
unfolding negative
value nan h = elim h.1 [ ]
value (inf _) h = elim h.1 [ ]
value (fin false zero e) h = elim h.1 [ ]
value (fin true m e) h = elim h.1 [ ]
value (fin false (suc m) e) (h, p) = units_exact (fin false (suc m) e) (h, tt)

-- units have at most 53 digits before their zeros, so rounding loses none
exact : (x : Float) → AboveZero x → HasValue (round binary64 false (units x) (2 ^ 1074)) false (units x) (2 ^ 1074)
unfolding units
exact nan h = elim h.1 [ ]
exact (inf _) h = elim h.1 [ ]
exact (fin false zero e) h = elim h.1 [ ]
exact (fin true m e) h = elim h.1 [ ]
exact (fin false (suc m) e) (h, p) =
    let x = fin false (suc m) e in
    let s = split x (h, tt) in
    let u = units_split x (h, tt) in
    round_exact binary64 false (units x) (2 ^ 1074) s.0 s.1 (pow_pos 1074) s.2
    (rw u at (units_lt m e h))
    (ap (λ (y : ℕ). y * 2 ^ 1074) u)

pub itself : (x : Float) → AboveZero x → round binary64 false (units x) (2 ^ 1074) ≡ x
itself x h =
    let r = round binary64 false (units x) (2 ^ 1074) in
    let v = exact x h in
    let u = value_pos x (units x) (2 ^ 1074) h.1 (pow_pos 1074) (value x h) in
    let p = positive_of_value r (units x) (2 ^ 1074) v u in
    same_units r x (round-fits binary64 false (units x) (2 ^ 1074), p) h (units_of r false (units x) v)

pub own : (m : ℕ) (e : ℤ) → T (fits binary64 (fin false (suc m) e)) →
    round binary64 false (suc m * up e) (down e) ≡ fin false (suc m) e
own m e h =
    let x = fin false (suc m) e in
    let v = (value x (h, some m)).1 in
    round_same binary64 false (suc m * up e) (down e) (units x) (2 ^ 1074) (down_pos e) (pow_pos 1074) v
    ∙ itself x (h, some m)

-- `numbers::is_finite` meets its contract: a finite number less itself is 0, and any other is NaN. Assumes nothing.
use Rattle.std.proofs.Common.{◌≡◌, ℕ, ◌*◌, ◌<◌, Bool, true, false, not, refl, mul-pos, arith, le-ltb}
use native.Mathlib.Nat.{sub_self}
use lib.Ieee.{Float, nan, inf, fin, binary64, up, down, round, sum, add, sub, neg, eq, of_bits}
use lib.Ieee.Fits.{down_pos}
use lib.Ieee.Scale.{finite, round_same}
use Rattle.numbers.proofs.basic.is_finite.Goals as goal

nothing : (d : ℕ) → 0 < d → eq (round binary64 false 0 d) (of_bits binary64 0) ≡ true
unfolding round eq of_bits
nothing d h = rw (round_same binary64 false 0 d 0 1 h (omega arith) (omega arith))

itself : (s : Bool) (a d : ℕ) → 0 < d → eq (sum binary64 s a (not s) a d) (of_bits binary64 0) ≡ true
unfolding sum
itself true a d h = rw (le-ltb a a (omega arith), sub_self a) (nothing d h)
itself false a d h = rw (le-ltb a a (omega arith), sub_self a) (nothing d h)

difference : (x : Float) → eq (sub binary64 x x) (of_bits binary64 0) ≡ finite x
unfolding sub add neg eq
difference nan = refl
difference (inf true) = refl
difference (inf false) = refl
difference (fin s m e) = itself s (m * up e * down e) (down e * down e) (mul-pos (down_pos e) (down_pos e))

pub returns : goal.returns
returns c = difference c.args.x

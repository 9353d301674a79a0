-- `numbers::from_bits` meets its contract: without its sign, a NaN's pattern is above infinity's, and no other is.
-- Assumes nothing.
use Rattle.std.proofs.Common.{◌≡◌, true, false, refl, le-ltb, lt-ltb}
use denote.Floats.{passes}
use lib.Ieee.{Float, nan, inf, fin, binary64, div, is_nan, of_bits}
use lib.Ieee.Bits.{nan_bits_is, nan_bits_above}
use Rattle.numbers.proofs.basic.from_bits.Goals as goal

only_nan : (x : Float) → is_nan x ≡ true → div binary64 (of_bits binary64 0) (of_bits binary64 0) ≡ x
unfolding div of_bits is_nan
only_nan nan h = refl
only_nan (inf s) h = absurd (passes false h)
only_nan (fin s m e) h = absurd (passes false h)

pub float_from_bits-result : goal.float_from_bits-result
float_from_bits-result c = rw (nan_bits_above, le-ltb _ _ c.if-bits-gt-INFINITY.false) tt

pub returns-then-bits-gt-INFINITY : goal.returns-then-bits-gt-INFINITY
returns-then-bits-gt-INFINITY c =
    only_nan _ (rw (← nan_bits_is, nan_bits_above) (lt-ltb _ _ c.if-bits-gt-INFINITY.true))

-- Absolute value, maximum, clamp and kinds of a binary64. Definitions only. (A NaN is std's `is_nan`, a finite number its
-- `Float.Ieee.Scale.finite`.)
use Rattle.std.specs.Prelude.{Bool, true, false, is_nan, if◌then◌else◌}
use lib.Ieee.{Float, nan, inf, fin}
use Rattle.numbers.specs.Arithmetic.{◌<₆₄◌, 0f, 1f}

unfoldable pub magnitude : Float → Float
magnitude nan = nan
magnitude (inf s) = inf false
magnitude (fin s m e) = fin false m e

-- whether a number, zero among them, has a minus sign
unfoldable pub negative : Float → Bool
negative nan = false
negative (inf s) = s
negative (fin s m e) = s

-- A NaN gives way to the other; of two that are equal, which differ at most as zeros do, the one with a minus sign
-- gives way.
unfoldable pub larger : Float → Float → Float
larger x y =
    if is_nan x then y else
    if is_nan y then x else
    if x <₆₄ y then y else
    if y <₆₄ x then x else
    if negative x then y else x

-- x, or the end of the range from 0 to 1 that it lies beyond: a NaN lies beyond neither, and -0 is not below 0
unfoldable pub clamped : Float → Float
clamped x =
    if x <₆₄ 0f then 0f else
    if 1f <₆₄ x then 1f else x

unfoldable pub infinite : Float → Bool
infinite nan = false
infinite (inf s) = true
infinite (fin s m e) = false

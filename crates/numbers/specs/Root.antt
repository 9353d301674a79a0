-- The square root of a binary64, by squares of whole numbers alone, and what is proved of it (`proofs/Nearest.antt`).
-- Definitions only.
use Rattle.std.specs.Prelude.{◌≡◌, ℕ, zero, suc, ◌+◌, ◌-◌, ◌*◌, ◌/◌, ◌%◌, ◌^◌, ◌<◌, ◌≤◌, true, false, T, ◌≢◌, nat_le}
use Rattle.std.specs.Prelude.{to_bits, Float, if◌then◌else◌}
use Prim.Native.Nat.{compare}
use Rattle.std.specs.Float.{nan, inf, fin, binary64}
use Rattle.std.specs.Float.Ieee.{up, down, size, nearest, odd, fits}
use Rattle.std.specs.Float.Ieee.Scale.{finite}
use Rattle.std.specs.Float.Ieee.Exact.{HasValue}
use Rattle.std.specs.Float.Ieee.Positive.{positive}
use Rattle.numbers.specs.Basic.{negative}

-- ---- the rule

-- the largest r with r * r ≤ n, for an n below 4 ^ d: twice that of n / 4, or one more
unfoldable pub root_below : ℕ → ℕ → ℕ
root_below zero n = 0
root_below (suc d) n =
    let r = 2 * root_below d (n / 4) in
    if nat_le ((r + 1) * (r + 1)) n then r + 1 else r

unfoldable pub floor_root : ℕ → ℕ
unfolding size root_below
floor_root n = root_below (size n) n

-- The whole number q for which q * 2 ^ k is nearest to √n: the largest with q * 2 ^ k ≤ √n, or the next, by how √n
-- compares with (q + 1/2) * 2 ^ k. At a tie, which never arises, the even one.
unfoldable pub rounded : ℕ → ℕ → ℕ
unfolding floor_root
rounded n k =
    let q = floor_root (n / 2 ^ (2 * k)) in
    nearest q (compare (4 * n) ((2 * q + 1) * (2 * q + 1) * 2 ^ (2 * k)))

-- How many units of 2 ^ -1074, the smallest value above zero, a number has, its sign left out: for every binary64 a
-- whole number.
unfoldable pub units : Float → ℕ
units nan = 0
units (inf s) = 0
units (fin s m e) = m * up e * 2 ^ 1074 / down e

-- The root of n units is √(n * 2 ^ 1074) units. Of its digits, of which a number of z digits has (z + 1) / 2, it keeps
-- 53 and drops k.
unfoldable pub root_units : ℕ → Float
unfolding rounded odd
root_units n =
    let k = (size (n * 2 ^ 1074) + 1) / 2 - 53 in
    odd 53 false (rounded (n * 2 ^ 1074) k) k 1074

unfoldable pub root : Float → Float
unfolding units root_units
root nan = nan
root (inf false) = inf false
root (inf true) = nan
root (fin s zero e) = fin s zero e
root (fin true (suc m) e) = nan
root (fin false (suc m) e) = root_units (units (fin false (suc m) e))

-- ---- what is proved of it

-- A finite binary64, and one above zero.
abbrev pub Number : Float → Type 0
Number y = T (fits binary64 y) × T (finite y)

abbrev pub AboveZero : Float → Type 0
AboveZero x = T (fits binary64 x) × T (positive x)

-- `units` is exact: every finite binary64, zeros and subnormal numbers among them, is `units x` / 2 ^ 1074, with its
-- own sign. (`HasValue x s a c`: x is finite, has the sign s, and is a / c in size.)
abbrev pub UnitsExact : Type 0
UnitsExact = (x : Float) → Number x → HasValue x (negative x) (units x) (2 ^ 1074)

-- Twice √x and twice the midpoint of y and r, both squared, in squares of the unit.
abbrev pub twice_root² : Float → ℕ
twice_root² x = 4 * (units x * 2 ^ 1074)

abbrev pub twice_midpoint² : Float → Float → ℕ
twice_midpoint² y r = (units y + units r) * (units y + units r)

-- r is nearest to √x: √x lies on r's side of the midpoint of r and any other number y, or on the midpoint, and then r's
-- last digit is even.
pub record Nearest (x r : Float) : Type 0 where
  pub above_zero : AboveZero r
  pub from_below : (y : Float) → Number y → units y < units r → twice_midpoint² y r ≤ twice_root² x
  pub from_above : (y : Float) → Number y → units r < units y → twice_root² x ≤ twice_midpoint² y r
  pub even_at_tie : (y : Float) → Number y → (units y ≢ units r) → twice_midpoint² y r ≡ twice_root² x →
      to_bits binary64 r % 2 ≡ 0

-- `floor_root` is the largest whole number whose square is not above n.
abbrev pub FloorRoot : Type 0
FloorRoot = (n : ℕ) → (floor_root n * floor_root n ≤ n) × (n < (floor_root n + 1) * (floor_root n + 1))

-- No binary64 lies nearer to √x than `root x`.
abbrev pub NoneNearer : Type 0
NoneNearer = (x : Float) → AboveZero x → Nearest x (root x)

-- No tie arises: √x is the midpoint of `root x` and no other binary64.
abbrev pub NoTie : Type 0
NoTie =
    (x y : Float) → AboveZero x → Number y → (units y ≢ units (root x)) →
    twice_midpoint² y (root x) ≢ twice_root² x

-- Only one value is nearest.
abbrev pub OnlyOne : Type 0
OnlyOne = (x r : Float) → AboveZero x → Nearest x r → r ≡ root x

-- Numbers that words spell. Definitions only.
use Rattle.std.specs.Prelude.{ℕ, ◌+◌, ◌*◌, ◌-◌, ◌^◌, List, [], ◌∷◌, eqb, leb, ltb, length, if◌then◌else◌, Float}
use Rattle.std.specs.Prelude.{Option, Some, None, option_map, option_and_then}
use Rattle.std.specs.Float.{binary64}
use Rattle.std.specs.Float.Ieee.{of_bits}

-- the value of a hexadecimal digit, `0` to `9`, `A` to `F` or `a` to `f` in ASCII
unfoldable pub digit_value : ℕ → Option ℕ
digit_value b =
    if ltb b 48 then None else
    if ltb b 58 then Some (b - 48) else
    if ltb b 65 then None else
    if ltb b 71 then Some (b - 65 + 10) else
    if ltb b 97 then None else
    if ltb b 103 then Some (b - 97 + 10) else None

-- what a digit of a base makes of the n before it, if that is within a bound
unfoldable pub joined : ℕ → ℕ → ℕ → ℕ → Option ℕ
joined base most n b =
    option_and_then
    (λ value. if leb base value then None else if ltb most (n * base + value) then None else Some (n * base + value))
    (digit_value b)

-- The number that digits spell in a base, after others that spell n. It grows with each digit, so one above the bound
-- stays there.
unfoldable pub spelled : ℕ → ℕ → ℕ → List ℕ → Option ℕ
spelled base most n [] = Some n
spelled base most n (b ∷ rest) =
    option_and_then (λ m. spelled base most m rest) (joined base most n b)

-- a decimal number up to a bound
unfoldable pub read_count : ℕ → List ℕ → Option ℕ
read_count most word = if eqb (length word) 0 then None else spelled 10 most 0 word

-- the binary64 number of a pattern of 16 hexadecimal digits
unfoldable pub read_float : List ℕ → Option Float
read_float word =
    if eqb (length word) 16 then option_map (of_bits binary64) (spelled 16 (2 ^ 64 - 1) 0 word) else None

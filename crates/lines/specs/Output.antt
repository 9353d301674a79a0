-- Words in ASCII, and how they are put into a buffer. Definitions only.
use Rattle.std.specs.Prelude.{ℕ, zero, suc, ◌+◌, ◌-◌, ◌/◌, ◌%◌, List, [], ◌∷◌, ◌++◌, eqb, ltb, Float, length, take}
use Rattle.std.specs.Prelude.{drop, set, if◌then◌else◌}
use Rattle.std.specs.Float.{binary64}
use Rattle.std.specs.Float.Ieee.{to_bits}

-- the digit of a value below 16: `0` to `9`, then `A` to `F`
unfoldable pub glyph : ℕ → ℕ
glyph value = if ltb value 10 then 48 + value else 65 + (value - 10)

-- the last k hexadecimal digits of n
unfoldable pub hex_text : ℕ → ℕ → List ℕ
hex_text zero n = []
hex_text (suc k) n = hex_text k (n / 16) ++ (glyph (n % 16) ∷ [])

-- the decimal digits of n, if there are no more than k
unfoldable pub decimal_text : ℕ → ℕ → List ℕ
decimal_text zero n = []
decimal_text (suc k) n =
    if ltb n 10 then (48 + n) ∷ [] else
    decimal_text k (n / 10) ++ ((48 + n % 10) ∷ [])

-- the next place and the buffer, with a word and a space from a place on if they fit
unfoldable pub put : List ℕ → ℕ → List ℕ → ℕ × List ℕ
put out at word =
    if ltb (at + length word) (length out)
    then (at + length word + 1, take at out ++ word ++ (32 ∷ drop (at + length word + 1) out))
    else (at, out)

-- the next place and the buffer, with the patterns of numbers put one after the other
unfoldable pub put_floats : ℕ × List ℕ → List Float → ℕ × List ℕ
put_floats line [] = line
put_floats line (x ∷ rest) = put_floats (put line.1 line.0 (hex_text 16 (to_bits binary64 x))) rest

-- the buffer with a line feed in place of the space that ends its first bytes, if it has so many
unfoldable pub ended : List ℕ → ℕ → List ℕ
ended out end =
    if eqb end 0 then out else
    if ltb (length out) end then out else set out (end - 1) 10

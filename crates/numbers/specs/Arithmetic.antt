-- The notation that the rules of all crates share: arithmetic and order of binary64 numbers, a list that has a number,
-- and the numbers that the sources write. Definitions only.
use Rattle.std.specs.Prelude.{ℕ, ◌^◌, Bool, false, ◌||◌, List, [], ◌∷◌, ◌==◌, Float}
use Rattle.std.specs.Float.{binary64}
use Rattle.std.specs.Float.Ieee.{round, add, sub, mul, div, lt, le}

infixl 65 ◌+₆₄◌
infixl 65 ◌-₆₄◌
infixl 70 ◌*₆₄◌
infixl 70 ◌/₆₄◌
infix 50 ◌<₆₄◌
infix 50 ◌≤₆₄◌
-- each rounds its exact result once, to the nearest binary64, ties to even
abbrev pub ◌+₆₄◌ : Float → Float → Float
a +₆₄ b = add binary64 a b

abbrev pub ◌-₆₄◌ : Float → Float → Float
a -₆₄ b = sub binary64 a b

abbrev pub ◌*₆₄◌ : Float → Float → Float
a *₆₄ b = mul binary64 a b

abbrev pub ◌/₆₄◌ : Float → Float → Float
a /₆₄ b = div binary64 a b

-- -0 equals +0, and both are false where one side is not a number
abbrev pub ◌<₆₄◌ : Float → Float → Bool
a <₆₄ b = lt a b

abbrev pub ◌≤₆₄◌ : Float → Float → Bool
a ≤₆₄ b = le a b

-- whether a number is one of a list
unfoldable pub one_of : List ℕ → ℕ → Bool
one_of [] n = false
one_of (m ∷ l) n = n == m || one_of l n

-- the binary64 nearest to the decimal fraction n / 10 ^ k
unfoldable pub decimal : ℕ → ℕ → Float
unfolding round
decimal n k = round binary64 false n (10 ^ k)

abbrev pub 0f : Float
0f = decimal 0 0

abbrev pub ½ : Float
½ = decimal 5 1

abbrev pub 1f : Float
1f = decimal 1 0

abbrev pub 1½ : Float
1½ = decimal 15 1

abbrev pub 2f : Float
2f = decimal 2 0

abbrev pub 4f : Float
4f = decimal 4 0

abbrev pub 1e-4 : Float
1e-4 = decimal 1 4

abbrev pub 1e-7 : Float
1e-7 = decimal 1 7

abbrev pub 1e-11 : Float
1e-11 = decimal 1 11

abbrev pub 1e-12 : Float
1e-12 = decimal 1 12

abbrev pub 1e-14 : Float
1e-14 = decimal 1 14

abbrev pub 1e-15 : Float
1e-15 = decimal 1 15

abbrev pub 1e-30 : Float
1e-30 = decimal 1 30

-- Little-endian numbers at a place of a list of bytes. Definitions only.
use Rattle.std.specs.Prelude.{ℕ, zero, suc, ◌+◌, ◌*◌, List, [], ◌∷◌, get_or, Float}
use Rattle.std.specs.Float.{binary64}
use Rattle.std.specs.Float.Ieee.{of_bits}

unfoldable pub u16_at : List ℕ → ℕ → ℕ
u16_at b at = get_or b at 0 + 256 * get_or b (at + 1) 0

unfoldable pub u32_at : List ℕ → ℕ → ℕ
u32_at b at = u16_at b at + 65536 * u16_at b (at + 2)

unfoldable pub u64_at : List ℕ → ℕ → ℕ
u64_at b at = u32_at b at + 4294967296 * u32_at b (at + 4)

unfoldable pub number_at : List ℕ → ℕ → Float
number_at b at = of_bits binary64 (u64_at b at)

-- so many numbers from a place on
unfoldable pub numbers_at : List ℕ → ℕ → ℕ → List Float
numbers_at b at zero = []
numbers_at b at (suc n) = number_at b at ∷ numbers_at b (at + 8) n

-- The example of SCOPE L4: the bytes of its file. Definitions only.
use Rattle.std.specs.Prelude.{ℕ, zero, suc, ◌/◌, ◌%◌, List, [], ◌∷◌, ◌++◌}

-- n bytes, the least first
unfoldable pub bytes : ℕ → ℕ → List ℕ
bytes zero x = []
bytes (suc n) x = x % 256 ∷ bytes n (x / 256)

unfoldable pub patterns : List ℕ → List ℕ
patterns [] = []
patterns (x ∷ l) = bytes 8 x ++ patterns l

-- origin (0, 0, -5), direction (0, 0, 1), index 1
unfoldable pub beam_record : List ℕ
beam_record =
    bytes 2 58 ++ bytes 2 0
    ++ patterns (0 ∷ 0 ∷ 0xc014000000000000 ∷ 0 ∷ 0 ∷ 0x3ff0000000000000 ∷ 0x3ff0000000000000 ∷ [])

-- a plane at 0, index 2, k 0, semi-diameter 10
unfoldable pub plane_record : List ℕ
plane_record = bytes 2 42 ++ bytes 2 1 ++ patterns (0 ∷ 0x4000000000000000 ∷ 0 ∷ 0 ∷ 0x4024000000000000 ∷ [])

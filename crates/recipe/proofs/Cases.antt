-- A recipe's end, both sides of it. A record has 4 bytes and whole numbers, so that these are 65,536 bytes, as of 380
-- odd aspheres and 4 conics, and 65,540, as of 380 odd aspheres and 3 biconics. Assumes nothing.
use Rattle.std.specs.Prelude.{ℕ, ◌≡◌, List}
use Rattle.std.proofs.Math.Bool.{and-true, and-false}
use Rattle.recipe.specs.Record.{end_at, formed_at, shaped_at, bad, record_at}

-- a record that ends at the end has a shape if it has its own
pub at_the_end : (b : List ℕ) (at : ℕ) → end_at b at ≡ 65536 → shaped_at b at ≡ formed_at b at
unfolding shaped_at
at_the_end b at e = rw (e, and-true (formed_at b at))

-- one that ends past it is malformed, whatever its numbers
pub past_the_end : (b : List ℕ) (at : ℕ) → end_at b at ≡ 65540 → record_at b at ≡ bad 10
unfolding shaped_at record_at
past_the_end b at e = rw (e, and-false (formed_at b at))

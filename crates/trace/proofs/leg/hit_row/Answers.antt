-- A front face is 1, and 0 else. Assumes nothing.
use Rattle.std.specs.Prelude.{Bool, true, false, ◌≡◌, pos, if◌then◌else◌}
use Rattle.std.specs.Int.{from_bool}
use Rattle.std.specs.Float.{binary64}
use Rattle.std.specs.Float.Ieee.{of_bits, of_int}
use Rattle.std.proofs.Common.{refl}
use Rattle.numbers.specs.Arithmetic.{decimal, 0f, 1f}
use Rattle.trace.specs.Leg.{hit_row}
use Rattle.trace.proofs.leg.hit_row.Goals as goal

front : (b : Bool) → of_int binary64 (pos (from_bool b)) ≡ (if b then 1f else 0f)
unfolding decimal of_int
front true = refl
front false = refl

pub returns : goal.returns
unfolding hit_row decimal of_bits
returns c = rw (c.from.ensures, c.from-2.ensures, front c.args.g.front)

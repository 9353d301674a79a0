-- A number above 0 has a pattern. Assumes nothing.
use lib.Ieee.{of_bits, lt}
use Rattle.numbers.specs.Arithmetic.{decimal, 0f}
use Rattle.numbers.proofs.Signs.{positive, no_nan}
use Rattle.surfaces.specs.Parts.{same_above0}
use Rattle.numbers.proofs.Choice.{both}
use Rattle.surfaces.proofs.waits.same.Goals as goal

pub float_to_bits-result : goal.float_to_bits-result
unfolding same_above0 decimal of_bits
float_to_bits-result c = no_nan (positive _ (both (lt 0f c.args.x) _ c.if-x-y.true).0)

pub float_to_bits-result-then-x-y : goal.float_to_bits-result-then-x-y
unfolding same_above0 decimal of_bits
float_to_bits-result-then-x-y c = no_nan (positive _ (both (lt 0f c.args.x) _ c.if-x-y.true).1)

pub returns-then-x-y : goal.returns-then-x-y
unfolding same_above0 decimal of_bits
returns-then-x-y c = rw c.if-x-y.true

pub returns-else-x-y : goal.returns-else-x-y
unfolding same_above0 decimal of_bits
returns-else-x-y c = rw c.if-x-y.false

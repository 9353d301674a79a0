-- By the law on its tests. Assumes nothing.
use denote.Floats.{passes}
use lib.Ieee.{of_bits}
use Rattle.numbers.specs.Arithmetic.{decimal}
use Rattle.surfaces.proofs.Sheet.{sure_near}
use Rattle.surfaces.proofs.waits.surely_near.Goals as goal

pub returns : goal.returns
unfolding decimal of_bits
returns c = let a = c.args in sure_near a.z a.c a.b a.sq a.guess (passes _ c.well_formed.1.1.1.0.1)

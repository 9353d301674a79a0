-- `numbers::is_infinite` meets its contract: the magnitudes of the infinities alone equal +infinity. Assumes nothing.
use Rattle.std.proofs.Common.{◌≡◌, false, refl}
use lib.Ieee.{Float, nan, inf, fin, div, eq, of_bits}
use Rattle.numbers.specs.Basic.{magnitude, infinite}
use Rattle.numbers.proofs.basic.is_infinite.Goals as goal

alone : (x : Float) → eq (magnitude x) (inf false) ≡ infinite x
unfolding magnitude infinite eq
alone nan = refl
alone (inf s) = refl
alone (fin s m e) = refl

pub returns : goal.returns
unfolding div of_bits
returns c = rw c.abs.ensures (alone c.args.x)

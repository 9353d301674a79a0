-- `numbers::is_nan` meets its contract: only a NaN differs from itself. Assumes nothing.
use Rattle.std.proofs.Common.{◌≡◌, ◌*◌, true, false, refl, eq-eqb}
use lib.Ieee.{Float, nan, inf, fin, up, down, ne, is_nan}
use Rattle.numbers.proofs.basic.is_nan.Goals as goal

differs : (x : Float) → ne x x ≡ is_nan x
unfolding ne is_nan
differs nan = refl
differs (inf true) = refl
differs (inf false) = refl
differs (fin true m e) = rw (eq-eqb (m * up e * down e) (m * up e * down e) refl)
differs (fin false m e) = rw (eq-eqb (m * up e * down e) (m * up e * down e) refl)

pub returns : goal.returns
returns c = differs c.args.x

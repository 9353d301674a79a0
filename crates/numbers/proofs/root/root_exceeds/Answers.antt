-- `numbers::root::root_exceeds` meets its contract: where the root is not worked out, it is not above y.
-- Assumes nothing.
use Rattle.std.proofs.Common.{sym}
use mathlib.Core.Bool.{and-eq-true_iff}
use denote.Floats.{passes}
use lib.Ieee.{binary64, of_bits, lt, mul}
use Rattle.numbers.proofs.Exceeds.{not_above}
use Rattle.numbers.proofs.Signs.{positive}
use Rattle.numbers.proofs.root.root_exceeds.Goals as goal

pub returns-then-y-x : goal.returns-then-y-x
returns-then-y-x c =
    let x = c.args.x in
    let y = c.args.y in
    let t = (and-eq-true_iff (lt (of_bits binary64 0) y) (lt x (mul binary64 y y))).0 c.if-y-x.true in
    let good = c.well_formed in
    sym (not_above x y (passes _ good.0.1) (passes _ good.1.0.1) (positive y t.0) t.1)

pub returns : goal.returns
returns c = rw c.sqrt.ensures

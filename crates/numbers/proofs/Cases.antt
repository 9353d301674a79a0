-- Every rule has its known values. Assumes nothing.
use Rattle.numbers.specs.Arithmetic.{decimal}
use Rattle.numbers.specs.Basic.{clamped, infinite, larger, magnitude, negative}
use Rattle.numbers.specs.Known.{knowns, rows, rules}
use Rattle.numbers.specs.Root.{root}
use Rattle.std.specs.Float.Ieee.{add, div, eq, is_nan, le, lt, mul, neg, of_bits, sub, to_bits}
use Rattle.std.specs.Prelude.{refl, ◌≡◌}

pub each_row : rules rows ≡ knowns rows
unfolding rows decimal root magnitude negative larger clamped infinite neg add sub mul div lt le eq is_nan of_bits
    to_bits
each_row = refl

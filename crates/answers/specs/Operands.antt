-- What is known of a question's operands. Definitions only.
use Rattle.std.specs.Prelude.{◌+◌, ◌≤◌}
use Rattle.answers.specs.declared.operands.Operands.{Operands}
use Rattle.answers.specs.declared.operands.Operands.TheVariants.{Plain, Marked}

-- all of them stand in an array of 64
abbrev pub Fit : Operands → Type 0
Fit (Plain count) = count ≤ 64
Fit (Marked before even odd) = before + even + odd ≤ 64

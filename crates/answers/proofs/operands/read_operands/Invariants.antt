-- The numbers fit the array, and those before the count are among them.
use Rattle.std.proofs.Common.{◌≤◌, IfSome}
use Rattle.answers.proofs.operands.read_operands.Given as goal

abbrev pub invariant-loop-word : goal.invariant-loop-word
invariant-loop-word l = (l.count ≤ 64) × IfSome l.mark (λ m. m.0 ≤ l.count)

-- At each turn the rest of the word spells, after the number so far, what the whole does.
use Rattle.std.proofs.Common.{◌≡◌, ◌≤◌, drop}
use Rattle.lines.specs.Digits.{spelled}
use Rattle.lines.proofs.digits.spelled.Given as goal

abbrev pub invariant-loop-b : goal.invariant-loop-b
invariant-loop-b l = record {
  within : l.n ≤ l.most;
  same : spelled l.base l.most l.n (drop l.b-index l.word) ≡ spelled l.base l.most 0 l.word;
}

use Rattle.std.proofs.Common.{◌≡◌, ◌+◌, ◌-◌, ◌*◌, ◌^◌, ◌<◌, ◌≤◌}
use Rattle.numbers.specs.Parts.{Above}
use Rattle.numbers.proofs.root.steps_up.Given as goal

abbrev pub invariant-loop-over : goal.invariant-loop-over
invariant-loop-over l =
    (l.q ≡ l.g + l.n) × (2 ^ 51 ≤ l.q) × (l.q ≤ 2 ^ 53) × (l.over < 2 ^ 64)
    × Above l.m l.q l.over × (l.q * l.q < l.m * 2 ^ 42 + l.q)

abbrev pub decreases-loop-over : goal.decreases-loop-over
decreases-loop-over l = 2 ^ 54 - l.q

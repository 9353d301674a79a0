-- At each turn the numbers that are left, put behind those before them, come to the same.
use Rattle.std.proofs.Common.{◌≡◌, drop}
use Rattle.lines.specs.Output.{put_floats}
use Rattle.lines.proofs.output.put_floats.Given as goal

abbrev pub invariant-loop-x : goal.invariant-loop-x
invariant-loop-x l = put_floats (l.end, l.out) (drop l.x-index l.values) ≡ put_floats (l.at, l.fn.out) l.values

-- The buffer keeps its length, what was read begins it and has no line feed, and each turn leaves less room behind it.
use Rattle.std.proofs.Common.{◌≡◌, ◌≢◌, ℕ, ◌-◌, ◌≤◌, ◌<◌, get_or, length}
use Rattle.lines.proofs.input.read_line.Given as goal

abbrev pub invariant-loop-to : goal.invariant-loop-to
invariant-loop-to g l = record {
  in_buffer : l.to ≤ length l.buffer;
  same_length : length l.buffer ≡ length l.fn.buffer;
  no_feed : (k : ℕ) → k < l.to → get_or l.buffer k 0 ≢ 10;
}

abbrev pub decreases-loop-to : goal.decreases-loop-to
decreases-loop-to g l = length l.buffer - l.to

-- The bytes read so far are in the file; what is left of it is the measure. Assumes nothing.
use Rattle.std.proofs.Common.{◌-◌, ◌≤◌, length}
use Rattle.tracelist.proofs.read_input.Given as goal

abbrev pub invariant-loop-held : goal.invariant-loop-held
invariant-loop-held g l = l.held ≤ length l.file

abbrev pub decreases-loop-held : goal.decreases-loop-held
decreases-loop-held g l = length l.file - l.held

use mathlib.Core.List.{◌++◌}
use Rattle.trace.specs.State.{held}
use Rattle.trace.specs.Parts.{blanks}
use Rattle.trace.proofs.Kept.{Keeps}
use Rattle.trace.proofs.run.walk.Given as goal

abbrev pub invariant-surfaces : goal.invariant-surfaces
invariant-surfaces l =
    Keeps l.recipe l.count l.first l.allowed (held l.initial.s (blanks l.first ++ l.initial.buf)) l.s l.buf l.left

abbrev pub decreases-surfaces : goal.decreases-surfaces
decreases-surfaces l = l.left

-- The root of y is that of x where x is y. Assumes nothing.
use mathlib.Core.Path.{ap, ◌∙◌}
use denote.Floats.{passes}
use Rattle.surfaces.specs.Parts.{root_again}
use Rattle.surfaces.proofs.Again.{root_again_lem}
use Rattle.surfaces.proofs.waits.root_beside.Goals as goal

pub returns : goal.returns
returns c =
    c.root_again.ensures ∙ ap (root_again c.args.x c.args.y) c.sqrt.ensures
    ∙ root_again_lem c.args.x c.args.y (passes _ c.well_formed.0.1) (passes _ c.well_formed.1.0.1)

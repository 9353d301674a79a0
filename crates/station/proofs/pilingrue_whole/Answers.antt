-- What is told of the call's reply, on the ray of the six numbers. Assumes nothing.
use mathlib.Core.Path.{◌∙◌, ap}
use Rattle.station.specs.Lent.{told}
use Rattle.station.proofs.pilingrue_whole.Goals as goal

pub returns : goal.returns
returns c =
    rw (← c.ray_of.ensures) (c.tell.ensures _ ∙ ap told c.whole.ensures)

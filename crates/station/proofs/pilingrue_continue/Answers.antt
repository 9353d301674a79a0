-- What is told of the call's reply, if it is accepted; the arrays as they were, if not. Assumes nothing.
use borrow.Author.Tests.{ne_eqb}
use Rattle.trace.proofs.Starts.{why_not_1}
use Rattle.station.specs.Lent.{continued}
use Rattle.station.proofs.pilingrue_continue.Goals as goal

pub returns-in-Ok : goal.returns-in-Ok
unfolding continued
returns-in-Ok c = rw (← c.state_in.ensures, ← c.in-Ok.ensures) (c.tell.ensures _)

pub returns-in-Err : goal.returns-in-Err
unfolding continued
returns-in-Err c =
    rw (← c.state_in.ensures, ← c.in-Err.ensures, ne_eqb _ 1 (why_not_1 c.in-Err.e.why), c.from.ensures)

-- A result is known by what it tells: of two results that a promise allows, each is the other. Definitions only.
use Rattle.surfaces.specs.Refusal.{OneToOne}
use Rattle.trace.specs.declared.state.State.{State}
use Rattle.trace.specs.Refusal.{why_number}
use Rattle.trace.specs.Run.{told_start, told_continue}
use Rattle.trace.specs.Wanted.{told_reach}

pub record ToldOneToOne : Type 0 where
  pub why : OneToOne why_number
  pub start : OneToOne told_start
  pub resume : (from : State) → OneToOne (told_continue from)
  pub reach : OneToOne told_reach

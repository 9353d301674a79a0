-- Steps to go from here are those to go from the start, over the surfaces. Assumes nothing.
use Prim.Native.Nat.{ℕ, ◌+◌, ◌-◌, ◌*◌, ◌<◌, ◌≤◌}
use mathlib.Core.Path.{◌≡◌, refl, sym, ap, ◌∙◌, subst}
use Rattle.std.specs.Prelude.{Some, Result, Ok, Err}
use mathlib.Core.Bool.{true, false}
use mathlib.Core.List.{List, ◌++◌}
use native.Mathlib.Omega.{arith}
use lib.Ieee.{Float}
use lib.ListN.{length}
use Rattle.surfaces.specs.Refusal.{Told, Ended, told_passed, told_crossing, told_progress}
use Rattle.surfaces.specs.Newton.{going}
use Rattle.surfaces.specs.declared.types.Landing.{Landing}
use Rattle.surfaces.specs.declared.newton.Passed.TheVariants as passed
use Rattle.surfaces.specs.declared.refusal.Refusal.{Refusal}
use Rattle.surfaces.proofs.Refusals.{never_going}
use Rattle.recipe.specs.declared.record.ReadRecord.{ReadRecord}
use Rattle.recipe.specs.Record.{told_record, read_at}
use Rattle.trace.specs.declared.state.State.{State}
use Rattle.trace.specs.Leg.{width}
use Rattle.trace.specs.State.{Held, held, paused_at, surface_left, advance}
use Rattle.trace.specs.Run.{items_of}
use Rattle.surfaces.specs.declared.newton.Progress.{Progress}
use Rattle.trace.specs.Parts.{blanks, lent_from}
use Rattle.trace.proofs.Walks.{Bounds, Came, bounds, pauses, leaves, read_is, there, room, came}
use Rattle.trace.proofs.Walks.{runs_done, runs_ended}
use Rattle.trace.proofs.Kept.{Keeps, keeps_first, keeps_room, keeps_is, keeps_next}
use Rattle.trace.proofs.run.walk.Goals as goal
use Rattle.trace.proofs.run.walk.Goals.{After-chain-progress}

-- an end is no pass that goes on
crossed : (x : Result Landing Refusal) → going (told_crossing x) ≡ false
crossed (Ok l) = refl
crossed (Err e) = never_going e

-- on one surface, behind its passes
module _ (c : After-chain-progress) where
  abbrev b : List ℕ
  b = c.args.recipe.now

  abbrev came_in : Held
  came_in = held c.args.state (blanks c.args.first ++ c.args.buf.now)

  abbrev s : State
  s = c.surfaces.s

  abbrev p : Progress
  p = c.chain-progress.result

  abbrev k : Keeps b c.args.count c.args.first c.args.allowed came_in s c.surfaces.buf c.surfaces.left
  k = c.surfaces.invariant

  -- before the passes, with the whole buffer
  abbrev here : Held
  here = held s k.full

  abbrev r : ReadRecord
  r = c.unwrap-read.result

  was_read : told_record (Some r) ≡ read_at b s.place
  was_read = ap told_record (sym c.unwrap-read.ensures) ∙ c.read_record.ensures

  came_to : Came b c.args.count here c.surfaces.left (told_progress s.passes p)
  came_to =
      subst (λ (e : Ended). Came b c.args.count here c.surfaces.left e) (sym c.chain-progress.ensures)
      (came _ _ k.runs.ready.good here _ k.runs.ready c.if-s-eq-RUNNING.true c.surfaces-test.true _
      was_read)

  taken : Bounds here c.surfaces.left p.taken
  taken = bounds _ _ k.runs.ready.good _ came_to refl

  roomy : (width * s.number + width ≤ length k.full) × (s.number < c.args.count)
  roomy = room _ _ k.runs.ready.good here _ k.runs.ready c.if-s-eq-RUNNING.true c.surfaces-test.true

  -- what a surface's end leaves in the whole buffer, by what its crossing tells
  module _ (x : Result Landing Refusal) (ends : p.passed ≡ passed.Ended x) where
    abbrev leaving : Held
    leaving = surface_left here r.next c.args.count r.optic (told_crossing x) (s.passes + p.taken) (s.steps + p.taken)

    left_at : (q : State) (w : List Float) → held q w ≡ lent_from c.args.first leaving →
        Keeps b c.args.count c.args.first c.args.allowed came_in q w (c.surfaces.left - p.taken)
    left_at q w by =
        let e = ap told_passed ends in
        keeps_next _ _ _ _ _ _ leaving
        (leaves _ _ k.runs.ready.good _ came_to refl (ap going e ∙ crossed x)
        (read_is _ _ k.runs.ready.good here _ k.runs.ready c.if-s-eq-RUNNING.true c.surfaces-test.true _
        was_read)
        leaving (rw e) k.runs)
        q w by

  stays : going (told_passed p.passed) ≡ true →
      held (paused_at s (s.passes + p.taken) (told_passed p.passed).value.t (s.steps + p.taken)) c.surfaces.buf
      ≡ lent_from c.args.first (advance (items_of b) c.args.allowed came_in)
  stays g =
      keeps_is _ _ _ _ _ _ k _ _
      (pauses _ _ k.runs.ready.good _ came_to refl g ∙ sym k.runs.same)

pub surfaces-init : goal.surfaces-init
surfaces-init c = keeps_first _ _ _ _ _ _ c.requires.0

pub unwrap-read-requires : goal.unwrap-read-requires
unwrap-read-requires c =
    let k = c.surfaces.invariant in
    there _ _ k.runs.ready.good (held c.surfaces.s k.full) _ k.runs.ready c.if-s-eq-RUNNING.true
    c.surfaces-test.true _ c.read_record.ensures

pub overflow_sub-left : goal.overflow_sub-left
overflow_sub-left c =
    let t = taken (goal.at.overflow_sub-left c).After-chain-progress in
    omega (arith, t.1)

pub overflow_add-passes : goal.overflow_add-passes
overflow_add-passes c =
    let t = taken (goal.at.overflow_add-passes c).After-chain-progress in
    omega (arith, t.2)

pub overflow_add-steps : goal.overflow_add-steps
overflow_add-steps c =
    let t = taken (goal.at.overflow_add-steps c).After-chain-progress in
    omega (arith, t.1, c.surfaces.invariant.runs.steps, c.requires.1, c.ranges.allowed)

pub leave-s-requires : goal.leave-s-requires
leave-s-requires c =
    let w = roomy (goal.at.leave-s-requires c).After-chain-progress in
    (keeps_room _ _ _ _ _ _ c.surfaces.invariant w.0, omega (arith, w.1, c.ranges.count))

pub surfaces-smaller : goal.surfaces-smaller
surfaces-smaller c =
    let t = taken (goal.at.surfaces-smaller c).After-chain-progress in
    omega (arith, t.0, t.1)

pub surfaces-preserved : goal.surfaces-preserved
surfaces-preserved c =
    left_at (goal.at.surfaces-preserved c).After-chain-progress c.in-Ended.x c.in-Ended.is _ _
    (rw c.from.ensures at (c.leave-s.ensures _ c.surfaces.invariant.kept))

pub returns-after-surfaces : goal.returns-after-surfaces
returns-after-surfaces c =
    let k = c.surfaces.invariant in
    keeps_is _ _ _ _ _ _ k _ _ (runs_done _ _ k.runs c.surfaces-test.false)

pub returns-else-s-eq-RUNNING : goal.returns-else-s-eq-RUNNING
returns-else-s-eq-RUNNING c =
    let k = c.surfaces.invariant in
    keeps_is _ _ _ _ _ _ k _ _ (runs_ended _ _ k.runs c.if-s-eq-RUNNING.false)

pub returns-in-Again : goal.returns-in-Again
returns-in-Again c =
    let s = c.surfaces.s in
    let n = c.chain-progress.result.taken in
    let e = ap told_passed c.in-Again.is in
    ap (λ (q : State). held q c.surfaces.buf) (rw c.from.ensures at c.paused-s.ensures)
    ∙ ap (λ (x : Told Landing). held (paused_at s (s.passes + n) x.value.t (s.steps + n)) c.surfaces.buf) (sym e)
    ∙ stays (goal.at.returns-in-Again c).After-chain-progress (ap going e)

-- A step, the steps that a call takes, and which states fit a recipe. Definitions only.
use Rattle.std.specs.Prelude.{ℕ, zero, suc, ◌+◌, ◌*◌, List, Bool, not, ◌&&◌, ◌||◌, length, eqb, ltb, leb, Float}
use Rattle.std.specs.Prelude.{if◌then◌else◌}
use Rattle.std.proofs.lemmas.List.Edits.{sets}
use Rattle.std.specs.Float.Ieee.Scale.{finite}
use Rattle.numbers.specs.Arithmetic.{◌≤₆₄◌, 0f}
use Rattle.surfaces.specs.Types.{ray_finite}
use Rattle.surfaces.specs.Refusal.{Told, done}
use Rattle.surfaces.specs.Newton.{going}
use Rattle.surfaces.specs.Surface.{pass_answer}
use Rattle.surfaces.specs.declared.types.Landing.{Landing}
use Rattle.recipe.specs.declared.record.Optic.{Optic}
use Rattle.recipe.specs.Scan.{Verdict}
use Rattle.recipe.specs.Scan.{Item, item_at}
use Rattle.trace.specs.declared.leg.Beam.{Beam}
use Rattle.trace.specs.declared.leg.Leg.{Leg}
use Rattle.trace.specs.declared.state.State.{State}
use Rattle.trace.specs.Leg.{leg_of, beam_after, row_of, width}

-- what a call leaves: the state and the result buffer
pub record Held : Type 0 where
  pub state : State
  pub buffer : List Float

abbrev pub held : State → List Float → Held
held s z = record { state = s; buffer = z }

-- in the middle of a surface
unfoldable pub paused_at : State → ℕ → Float → ℕ → State
paused_at s passes t steps =
    record { number = s.number; place = s.place; passes = passes; t = t; beam = s.beam; steps = steps; outcome = 0 }

-- a state before a surface, or at an end
abbrev pub standing : ℕ → ℕ → Beam → ℕ → ℕ → State
standing number place b steps outcome =
    record { number = number; place = place; passes = 0; t = 0f; beam = b; steps = steps; outcome = outcome }

-- at a surface's end: a hit moves on number, place and beam, a refusal keeps these
unfoldable pub state_after : State → ℕ → ℕ → Optic → Told Leg → ℕ → State
state_after s next count o x steps =
    let outcome : ℕ = if eqb (s.number + 1) count then 1 else 0 in
    if done x then standing (s.number + 1) next (beam_after o s.beam x.value) steps outcome else
    standing s.number s.place s.beam steps x.line.number

-- what the end of a surface leaves, of which the last pass told x
unfoldable pub surface_left : Held → ℕ → ℕ → Optic → Told Landing → ℕ → ℕ → Held
surface_left h next count o x passes steps =
    let s = h.state in
    let e = leg_of s.number o s.beam x in
    held (state_after s next count o e steps) (sets h.buffer (width * s.number) (row_of e passes))

-- one step on an item
unfoldable pub step_on : Item → ℕ → Held → Held
step_on i count h =
    let s = h.state in
    let o = i.optic in
    let x = pass_answer o.surface s.beam.ray s.passes s.t in
    if going x then held (paused_at s (s.passes + 1) x.value.t (s.steps + 1)) h.buffer else
    surface_left h i.next count o x (s.passes + 1) (s.steps + 1)

-- one step, and none once ended
unfoldable pub move : List Item → Held → Held
move l h = if eqb h.state.outcome 0 then step_on (item_at l h.state.number) (length l) h else h

unfoldable pub advance : List Item → ℕ → Held → Held
advance l zero h = h
advance l (suc n) h = advance l n (move l h)

-- which states fit: the outcome is 0, 1, 2 or 4 to 9
unfoldable pub outcome_known : ℕ → Bool
outcome_known n = leb n 2 || leb 4 n && leb n 9

-- under outcome 1 the number is the count of records and the place the recipe's end; under another the place is that
-- of the record with that number
unfoldable pub place_fits : Verdict → ℕ → State → Bool
place_fits c end s =
    if eqb s.outcome 1 then eqb s.number c.count && eqb s.place end else
    ltb s.number c.count && eqb s.place c.found

-- the pass count is below that surface's limit and, once ended, 0
unfoldable pub passes_fit : Verdict → State → Bool
passes_fit c s = if eqb s.outcome 0 then ltb s.passes c.limit else eqb s.passes 0

-- ray and path are finite, the index finite and above 0
unfoldable pub beam_good : Beam → Bool
beam_good b = ray_finite b.ray && finite b.path && finite b.index && not (b.index ≤₆₄ 0f)

unfoldable pub fits_of : Verdict → ℕ → State → Bool
fits_of c end s =
    outcome_known s.outcome
    && place_fits c end s
    && passes_fit c s
    && leb s.steps c.limits
    && beam_good s.beam

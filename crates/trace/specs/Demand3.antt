-- Demand 3. Take one recipe, one accepted start, one result buffer that nobody else writes, and each call given the
-- state that the last returned. However the step allowances are chosen, what stands after every call is told here by
-- the surfaces' own ends, without the step: the records and the trace's end by the unbroken trace, and so the state,
-- but for the t within a surface, which is that of the chain of its passes. Definitions only.
use Rattle.std.specs.Prelude.{ℕ, suc, ◌+◌, ◌-◌, ◌≤◌, ◌<◌, min, ◌≡◌, ◌≢◌, ◌↔◌, true, false, List, [], ◌∷◌, length, take}
use Rattle.std.specs.Prelude.{leb, Float, if◌then◌else◌}
use Rattle.numbers.specs.Arithmetic.{0f}
use Rattle.surfaces.specs.Refusal.{done}
use Rattle.surfaces.specs.Surface.{surface_end, limit_of, chain}
use Rattle.surfaces.specs.declared.types.Ray.{Ray}
use Rattle.surfaces.specs.declared.surface.Kind.TheVariants.{Conic, Asphere, Biconic, Toroid}
use Rattle.recipe.specs.Scan.{Item, sum_limits}
use Rattle.trace.specs.declared.leg.Beam.{Beam}
use Rattle.trace.specs.declared.state.State.{State}
use Rattle.trace.specs.Leg.{leg_of, beam_after}
use Rattle.trace.specs.Unbroken.{Mark, Trace, unbroken, total, finished, rows, padded}
use Rattle.trace.specs.Run.{Reply, items_of, optics_of, beam_of, start_of, continue_of}
use Rattle.trace.specs.State.{standing}

-- a row of calls, one for each allowance
unfoldable pub calls : List ℕ → List ℕ → Reply → Reply
calls b [] r = r
calls b (a ∷ l) r = calls b l (continue_of b r.answer.state r.buffer a)

unfoldable pub sum : List ℕ → ℕ
sum [] = 0
sum (a ∷ l) = a + sum l

-- The state n steps on from the start of surface k, where l are the surfaces from k on and `end` is the recipe's end:
-- before or behind a surface whose end n reaches, or in the middle of one, after n passes of its own and at the t that
-- these have come to.
unfoldable pub state_at : List Item → ℕ → ℕ → Beam → ℕ → ℕ → State
state_at [] end k b steps n = standing k end b steps 1
state_at (i ∷ l) end k b steps n =
    let o = i.optic in
    let e = surface_end o.surface b.ray in
    let x = leg_of k o b e.answer in
    if leb e.passes n then
    (if done x then state_at l end (k + 1) (beam_after o b x.value) (steps + e.passes) (n - e.passes) else
    standing k i.at b (steps + e.passes) x.line.number)
    else
    record {
      number = k;
      place = i.at;
      passes = n;
      t = (chain o.surface b.ray n 0 0f).answer.value.t;
      beam = b;
      steps = steps + n;
      outcome = 0;
    }

-- the unbroken trace of a recipe
unfoldable pub trace_of : List ℕ → Ray → Float → Trace
trace_of b ray index = unbroken 0 (optics_of (items_of b)) (beam_of ray index)

-- the steps of surface k and of all before it
abbrev pub steps_to : ℕ → List Mark → ℕ
steps_to k l = total (take (suc k) l)

-- What stands once a trace has ended as the unbroken trace u does.
pub record Over (u : Trace) (size : ℕ) (r : Reply) : Type 0 where
  -- the outcome is the unbroken trace's, and no trace that goes on has it
  pub outcome : r.answer.state.outcome ≡ u.outcome
  pub ended : u.outcome ≢ 0
  -- as many steps as the unbroken trace takes, and as many surfaces hit
  pub steps : r.answer.state.steps ≡ total u.marks
  pub number : r.answer.state.number ≡ u.hits
  -- ray, index and path
  pub beam : r.answer.state.beam ≡ u.beam
  -- all its records, and +0.0 behind them
  pub buffer : r.buffer ≡ padded size (rows u.marks)

-- What stands after calls that were allowed n steps in all: u is the unbroken trace, and s the state after n steps.
pub record Kept (u : Trace) (s : State) (size n : ℕ) (r : Reply) : Type 0 where
  -- the call was accepted
  pub accepted : r.answer.number ≡ 1
  pub place : r.answer.place ≡ 0
  -- the finished surfaces' records equal those of the unbroken trace, and all other numbers are +0.0
  pub buffer : r.buffer ≡ padded size (rows (finished n u.marks))
  -- surface k is finished if and only if its steps, added up from the first, are at most n
  pub exactly : (k : ℕ) → k < length u.marks → (k < length (finished n u.marks)) ↔ (steps_to k u.marks ≤ n)
  -- the trace has gone exactly as many steps as were allowed, or has ended
  pub steps : r.answer.state.steps ≡ min n (total u.marks)
  -- the whole state is the one after that many steps
  pub state : r.answer.state ≡ s
  -- until the steps suffice the outcome is 0, and then the trace has ended as the unbroken one does
  pub outcome : r.answer.state.outcome ≡ (if leb (total u.marks) n then u.outcome else 0)
  pub over : total u.marks ≤ n → Over u size r

-- one recipe, one accepted start, and any allowances
abbrev pub Accepted : List ℕ → Ray → Float → List Float → Type 0
Accepted b ray index z = (start_of b ray index z).answer.number ≡ 1

abbrev pub called : List ℕ → Ray → Float → List Float → List ℕ → Reply
called b ray index z allowances = calls b allowances (start_of b ray index z)

pub record Demand3 : Type 0 where
  pub keeps : (b : List ℕ) (ray : Ray) (index : Float) (z : List Float) (allowances : List ℕ) → Accepted b ray index z
      → Kept (trace_of b ray index)
      (state_at (items_of b) (length b) 0 (beam_of ray index) 0 (sum allowances)) (length z)
      (sum allowances) (called b ray index z allowances)
  -- it has ended, with the unbroken trace's answer, once the allowances add up to the surfaces' limits
  pub ends : (b : List ℕ) (ray : Ray) (index : Float) (z : List Float) (allowances : List ℕ) → Accepted b ray index z
      → sum_limits (items_of b) ≤ sum allowances
      → Over (trace_of b ray index) (length z) (called b ray index z allowances)
  -- which are 1 for each conic, 25 for each even or odd asphere, 35 for each biconic or toroid
  pub limits : (c k cy ky : Float)
      → (limit_of (Conic c k) ≡ 1) × (limit_of (Asphere c k false) ≡ 25) × (limit_of (Asphere c k true) ≡ 25)
      × (limit_of (Biconic c k cy ky) ≡ 35) × (limit_of (Toroid c k cy) ≡ 35)
  -- a state that a genuine run returns is never refused with 12, whatever the buffer
  pub fits : (b : List ℕ) (ray : Ray) (index : Float) (z : List Float) (allowances : List ℕ) → Accepted b ray index z
      → (y : List Float) (n : ℕ)
      → (continue_of b (called b ray index z allowances).answer.state y n).answer.number ≢ 12

-- The state as C lends it, and what a call leaves in all that it is lent. Definitions only.
use Rattle.std.specs.Prelude.{ℕ, List, [], ◌∷◌, get_or, eqb, ltb, Float, if◌then◌else◌}
use Rattle.std.specs.Float.{nan}
use Rattle.surfaces.specs.Types.{ray_of}
use Rattle.trace.specs.declared.state.State.{State}
use Rattle.trace.specs.Run.{Answer}
use Rattle.trace.specs.Wanted.{Reached}
use Rattle.trace.specs.Run.{Reply, continue_of}
use Rattle.station.specs.declared.Verdict.{Verdict}

abbrev pub version : ℕ
version = 2

-- a count beyond its type is the type's largest
unfoldable pub passes_in : ℕ → ℕ
passes_in n = if ltb n 65536 then n else 65535

unfoldable pub outcome_in : ℕ → ℕ
outcome_in n = if ltb n 256 then n else 255

-- counts: number, place, passes, all steps, outcome; numbers: t, origin, direction, index, path
unfoldable pub state_in : List ℕ → List Float → State
state_in c x = record {
  number = get_or c 0 0;
  place = get_or c 1 0;
  passes = passes_in (get_or c 2 0);
  t = get_or x 0 nan;
  beam = record {
    ray = ray_of (get_or x 1 nan) (get_or x 2 nan) (get_or x 3 nan) (get_or x 4 nan) (get_or x 5 nan) (get_or x 6 nan);
    index = get_or x 7 nan;
    path = get_or x 8 nan;
  };
  steps = get_or c 3 0;
  outcome = outcome_in (get_or c 4 0);
}

unfoldable pub counts_of : State → List ℕ
counts_of s = s.number ∷ s.place ∷ s.passes ∷ s.steps ∷ s.outcome ∷ []

unfoldable pub numbers_of : State → List Float
numbers_of s =
    let o = s.beam.ray.origin in
    let d = s.beam.ray.direction in
    s.t ∷ o.x ∷ o.y ∷ o.z ∷ d.x ∷ d.y ∷ d.z ∷ s.beam.index ∷ s.beam.path ∷ []

-- the answer, and what stands in the lent arrays and the result buffer
pub record Left : Type 0 where
  pub verdict : Verdict
  pub counts : List ℕ
  pub numbers : List Float
  pub buffer : List Float

abbrev pub left : Verdict → List ℕ → List Float → List Float → Left
left v c x z = record { verdict = v; counts = c; numbers = x; buffer = z }

abbrev pub verdict_of : Answer → Verdict
verdict_of a = record { number = a.number; place = a.place }

-- start and whole write the state that they answer
abbrev pub told : Reply → Left
told r = left (verdict_of r.answer) (counts_of r.answer.state) (numbers_of r.answer.state) r.buffer

-- a refused continuation leaves the arrays as they were
abbrev pub told_if_accepted : List ℕ → List Float → Reply → Left
told_if_accepted c x r = if eqb r.answer.number 1 then told r else left (verdict_of r.answer) c x r.buffer

-- continue, on the state that the arrays hold
unfoldable pub continued : List ℕ → List ℕ → List Float → List Float → ℕ → Left
continued b c x z allowed = told_if_accepted c x (continue_of b (state_in c x) z allowed)

-- of one surface: the answer, and what stands in the lent record
pub record LeftRow : Type 0 where
  pub verdict : Verdict
  pub row : List Float

abbrev pub left_row : Verdict → List Float → LeftRow
left_row v z = record { verdict = v; row = z }

abbrev pub told_row : Reached → LeftRow
told_row r = left_row (record { number = r.number; place = r.place }) r.row

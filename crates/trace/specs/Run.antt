-- What start and continue answer, and what they leave in the result buffer, on every input. Definitions only.
use Rattle.std.specs.Prelude.{ℕ, ◌+◌, ◌*◌, List, map, true, not, ◌&&◌, length, replicate, eqb, ltb, Float}
use Rattle.std.specs.Prelude.{if◌then◌else◌, Result, Ok, Err}
use Rattle.std.specs.Float.Ieee.Scale.{finite}
use Rattle.numbers.specs.Arithmetic.{◌≤₆₄◌, 0f}
use Rattle.surfaces.specs.Types.{no_ray, ray_finite}
use Rattle.surfaces.specs.declared.types.Ray.{Ray}
use Rattle.recipe.specs.declared.record.Optic.{Optic}
use Rattle.recipe.specs.Scan.{Verdict}
use Rattle.recipe.specs.Scan.{Item, Scan, refused, items, scan, notes, nothing, place_of, items_in}
use Rattle.trace.specs.declared.leg.Beam.{Beam}
use Rattle.trace.specs.declared.state.State.{State}
use Rattle.trace.specs.declared.refusal.Refused.{Refused}
use Rattle.trace.specs.Leg.{width}
use Rattle.trace.specs.Refusal.{why_number}
use Rattle.trace.specs.State.{Held, held, standing, advance, fits_of}
use Rattle.trace.specs.Unbroken.{unbroken, total, rows, padded}

-- a recipe of at most 512 records
abbrev pub most_records : ℕ
most_records = 512

abbrev pub recipe_of : List ℕ → Scan
recipe_of b = scan true b most_records 0

-- 1 or the refusal, the refused record's place, and the state
pub record Answer : Type 0 where
  pub number : ℕ
  pub place : ℕ
  pub state : State

pub record Reply : Type 0 where
  pub answer : Answer
  pub buffer : List Float

abbrev pub reply : ℕ → ℕ → State → List Float → Reply
reply n p s z = record { answer = record { number = n; place = p; state = s }; buffer = z }

abbrev pub blank : List Float → List Float
blank z = replicate (length z) 0f

-- after a refused start the outcome is the refusal and all else 0
abbrev pub no_beam : Beam
no_beam = record { ray = no_ray; index = 0f; path = 0f }

unfoldable pub refused_answer : ℕ → ℕ → Answer
refused_answer n p = record { number = n; place = p; state = standing 0 0 no_beam 0 n }

-- what a start's result tells, and a continuation's from a state: a refused one keeps it
abbrev pub accepted : State → Answer
accepted s = record { number = 1; place = 0; state = s }

abbrev pub told_start : Result State Refused → Answer
told_start (Ok s) = accepted s
told_start (Err r) = refused_answer (why_number r.why) r.place

abbrev pub told_continue : State → Result State Refused → Answer
told_continue from (Ok s) = accepted s
told_continue from (Err r) = record { number = why_number r.why; place = r.place; state = from }

abbrev pub refused_reply : ℕ → ℕ → List Float → Reply
refused_reply n p z = record { answer = refused_answer n p; buffer = z }

-- the path starts at +0.0
abbrev pub beam_of : Ray → Float → Beam
beam_of ray index = record { ray = ray; index = index; path = 0f }

-- ray and index finite, index above 0: 1, or the refusal
unfoldable pub ray_admission : Ray → Float → ℕ
ray_admission ray index =
    if not (ray_finite ray && finite index) then 2 else
    if index ≤₆₄ 0f then 4 else 1

-- then room for so many records
unfoldable pub admission : Ray → Float → ℕ → ℕ → ℕ
admission ray index room count =
    let n = ray_admission ray index in
    if eqb n 1 && ltb room (width * count) then 11 else n

-- the checks of a start, the recipe's first, with places counted from `base` on
abbrev pub admitted : Scan → ℕ → Ray → Float → List Float → (List Item → Reply) → Reply
admitted (refused n p) base ray index z accept = refused_reply n (base + p) z
admitted (items l) base ray index z accept =
    let n = admission ray index (length z) (length l) in
    if eqb n 1 then accept l else refused_reply n 0 z

-- no records: done at once
abbrev pub first_state : ℕ → Beam → State
first_state count b = standing 0 0 b 0 (if eqb 0 count then 1 else 0)

-- what a start answers, by what a check says of the recipe and how much room there is
unfoldable pub begun_of : Verdict → ℕ → Ray → Float → ℕ → Answer
begun_of c base ray index room =
    let n = admission ray index room c.count in
    if not (eqb c.number 1) then refused_answer c.number (base + c.place) else
    if eqb n 1 then record { number = 1; place = 0; state = first_state c.count (beam_of ray index) } else
    refused_answer n 0

-- start first blanks the whole buffer
unfoldable pub start_at : ℕ → List ℕ → Ray → Float → List Float → Reply
start_at base b ray index z =
    admitted (recipe_of b) base ray index (blank z)
    (λ l. reply 1 0 (first_state (length l) (beam_of ray index)) (blank z))

unfoldable pub start_of : List ℕ → Ray → Float → List Float → Reply
start_of b ray index z = start_at 0 b ray index z

abbrev pub accept : Held → Reply
accept h = reply 1 0 h.state h.buffer

-- continue: the same recipe checks, then 11, then 12; a refused one leaves all as it was
abbrev pub continue_on : Scan → ℕ → State → List Float → ℕ → Reply
continue_on (refused n p) end s z allowed = reply n p s z
continue_on (items l) end s z allowed =
    if ltb (length z) (width * length l) then reply 11 0 s z else
    if not (fits_of (notes s.number nothing l) end s) then reply 12 0 s z else
    accept (advance l allowed (held s z))

unfoldable pub continue_of : List ℕ → State → List Float → ℕ → Reply
continue_of b s z allowed = continue_on (recipe_of b) (length b) s z allowed

-- the surfaces of a recipe that is good
abbrev pub items_of : List ℕ → List Item
items_of b = items_in (recipe_of b)

abbrev pub optics_of : List Item → List Optic
optics_of = map (λ (i : Item). i.optic)

-- a whole trace in one call: the unbroken one, after the start's checks
abbrev pub whole_on : Scan → ℕ → Ray → Float → List Float → Reply
whole_on r end ray index z =
    admitted r 0 ray index z (λ l.
    let u = unbroken 0 (optics_of l) (beam_of ray index) in
    reply 1 0 (standing u.hits (place_of l end u.hits) u.beam (total u.marks) u.outcome)
    (padded (length z) (rows u.marks)))

unfoldable pub whole_of : List ℕ → Ray → Float → List Float → Reply
whole_of b ray index z = whole_on (recipe_of b) (length b) ray index (blank z)

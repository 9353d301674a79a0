-- What the parts of the code say to each other; no promise of the crate cites it. Definitions only.
use Rattle.std.specs.Prelude.{ℕ, ◌*◌, ◌≤◌, ◌<◌, ◌≡◌, true, List, length, replicate, drop, Float, Result, Ok, Err, ⊤}
use Rattle.numbers.specs.Arithmetic.{0f}
use Rattle.surfaces.specs.Refusal.{Told, told, stops}
use Rattle.surfaces.specs.Surface.{limit_of}
use Rattle.surfaces.specs.declared.refusal.Refusal.{Refusal}
use Rattle.recipe.specs.Scan.{Item, items, item_at, place_of}
use Rattle.recipe.specs.declared.fault.Fault.{Fault}
use Rattle.recipe.specs.Fault.{fault_number}
use Rattle.trace.specs.declared.leg.Leg.{Leg}
use Rattle.trace.specs.declared.refusal.Why.{Why}
use Rattle.trace.specs.Refusal.{why_number}
use Rattle.trace.specs.declared.state.State.{State}
use Rattle.trace.specs.Leg.{no_leg, width}
use Rattle.trace.specs.State.{Held, held, beam_good}
use Rattle.trace.specs.Run.{recipe_of, items_of}

-- what the end of a surface tells
abbrev pub told_leg : Result Leg Refusal → Told Leg
told_leg = told no_leg

-- what a test tells by its fault, or by why a call is refused
abbrev pub told_fault : Result ⊤ Fault → ℕ
told_fault (Ok x) = 1
told_fault (Err f) = fault_number f

abbrev pub told_why : Result ⊤ Why → ℕ
told_why (Ok x) = 1
told_why (Err w) = why_number w

-- where a state stands that a walk goes on from: on a surface, at the recipe's end, or at a refusal
pub data Stands (l : List Item) (s : State) : Type 0 where
  walking : s.outcome ≡ 0 → s.number < length l
      → s.passes < limit_of (item_at l s.number).optic.surface.kind → Stands l s
  arrived : s.outcome ≡ 1 → s.number ≡ length l → s.passes ≡ 0 → Stands l s
  stopped : stops s.outcome ≡ true → s.number < length l → s.passes ≡ 0 → Stands l s

-- a state that fits the surfaces l of a recipe of `end` bytes
pub record Fit (l : List Item) (end : ℕ) (s : State) : Type 0 where
  pub beam : beam_good s.beam ≡ true
  pub place : s.place ≡ place_of l end s.number
  pub stands : Stands l s

-- what a walk relies on: a good recipe, room for its records, and a state that fits
pub record Ready (b : List ℕ) (room count : ℕ) (s : State) : Type 0 where
  pub good : recipe_of b ≡ items (items_of b)
  pub counted : count ≡ length (items_of b)
  pub fits : width * count ≤ room
  pub fit : Fit (items_of b) (length b) s

-- A walk may be lent a part of a result buffer: its records from surface `first` on are kept, and those before them
-- are not, which are blank at first.
abbrev pub kept_from : ℕ → List Float → List Float
kept_from first z = drop (width * first) z

abbrev pub blanks : ℕ → List Float
blanks first = replicate (width * first) 0f

abbrev pub lent_from : ℕ → Held → Held
lent_from first h = held h.state (kept_from first h.buffer)

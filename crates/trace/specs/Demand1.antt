-- Demand 1. Every call ends with an answer or a refusal from SCOPE's table, for every input. A refused start blanks the
-- whole result buffer, a refused continuation changes nothing, and 12 is given exactly if the state does not fit.
-- Definitions only.
use Rattle.std.specs.Prelude.{ℕ, ◌+◌, ◌*◌, ◌≤◌, ◌<◌, ◌≡◌, ◌≢◌, ◌↔◌, ◌⊎◌, List, [], ◌∷◌, true, false, length, replicate}
use Rattle.std.specs.Prelude.{drop, Float}
use Rattle.std.specs.Float.Ieee.Scale.{finite}
use Rattle.numbers.specs.Arithmetic.{◌≤₆₄◌, 0f}
use Rattle.surfaces.specs.Types.{ray_finite}
use Rattle.numbers.specs.Arithmetic.{one_of}
use Rattle.surfaces.specs.Surface.{limit_of}
use Rattle.surfaces.specs.declared.types.Ray.{Ray}
use Rattle.recipe.specs.declared.record.Optic.{Optic}
use Rattle.recipe.specs.Record.{good, record_at}
use Rattle.recipe.specs.Scan.{Item, items, item_at, sum_limits}
use Rattle.recipe.specs.Source.{source_bytes}
use Rattle.trace.specs.declared.state.State.{State}
use Rattle.trace.specs.Wanted.{Reached}
use Rattle.trace.specs.Leg.{width}
use Rattle.trace.specs.Run.{Reply, recipe_of, items_of, no_beam, start_of, continue_of, whole_of}
use Rattle.trace.specs.Wanted.{reach_of}
use Rattle.trace.specs.File.{start_file_of}

-- a place where good records, one behind the other from the recipe's first byte on, end: 0 if there are none
pub data GoodUpTo (b : List ℕ) : ℕ → Type 0 where
  none : GoodUpTo b 0
  more : {at next : ℕ} {o : Optic} → GoodUpTo b at → record_at b at ≡ good o next → GoodUpTo b next

-- What a call answers: one of its own numbers, and a place that is 0, or where the good records before it end.
pub record Answers (numbers b : List ℕ) (r : Reply) : Type 0 where
  pub number : one_of numbers r.answer.number ≡ true
  pub place : GoodUpTo b r.answer.place

-- What a refused start leaves: +0.0 in every number of the buffer, and a state of which the outcome is the refusal and
-- all else 0.
pub record Blanked (z : List Float) (r : Reply) : Type 0 where
  pub buffer : r.buffer ≡ replicate (length z) 0f
  pub state : r.answer.state
      ≡ record { number = 0; place = 0; passes = 0; t = 0f; beam = no_beam; steps = 0; outcome = r.answer.number }

-- What a refused continuation leaves: all as it was.
pub record Unchanged (s : State) (z : List Float) (r : Reply) : Type 0 where
  pub state : r.answer.state ≡ s
  pub buffer : r.buffer ≡ z

-- What a question for one surface answers: one of its own numbers, such a place, and +0.0 throughout the record of a
-- refused one.
pub record AnswersOne (b : List ℕ) (r : Reached) : Type 0 where
  pub number : one_of (1 ∷ 2 ∷ 3 ∷ 4 ∷ 10 ∷ []) r.number ≡ true
  pub place : GoodUpTo b r.place
  pub refused : r.number ≢ 1 → r.row ≡ replicate width 0f

-- A state that does not fit the surfaces l of a recipe of `end` bytes.
pub data Unfit (l : List Item) (end : ℕ) (s : State) : Type 0 where
  -- the outcome is not 0, 1, 2 or 4 to 9
  outcome_unknown : one_of (0 ∷ 1 ∷ 2 ∷ 4 ∷ 5 ∷ 6 ∷ 7 ∷ 8 ∷ 9 ∷ []) s.outcome ≡ false → Unfit l end s
  -- under outcome 1 the number is not the count of records
  number_not_count : s.outcome ≡ 1 → s.number ≢ length l → Unfit l end s
  -- or the place not the recipe's end
  place_not_end : s.outcome ≡ 1 → s.place ≢ end → Unfit l end s
  -- under another the place is not the start of the record with that number, or there is none
  place_not_start : s.outcome ≢ 1 → s.place ≢ (item_at l s.number).at → Unfit l end s
  number_without_record : s.outcome ≢ 1 → length l ≤ s.number → Unfit l end s
  -- the pass count is at or above that surface's limit
  passes_at_limit : s.number < length l → limit_of (item_at l s.number).optic.surface.kind ≤ s.passes
      → Unfit l end s
  -- or, once ended, not 0
  passes_once_ended : s.outcome ≢ 0 → s.passes ≢ 0 → Unfit l end s
  -- all steps are above the sum of all limits
  steps_above_limits : sum_limits l < s.steps → Unfit l end s
  -- ray or path is not finite
  ray_not_finite : ray_finite s.beam.ray ≡ false → Unfit l end s
  path_not_finite : finite s.beam.path ≡ false → Unfit l end s
  -- the index is not finite and positive
  index_not_finite : finite s.beam.index ≡ false → Unfit l end s
  index_not_positive : (s.beam.index ≤₆₄ 0f) ≡ true → Unfit l end s

-- When a continuation answers 12: the recipe's checks pass, there is room, and the state does not fit.
pub record Refused12 (b : List ℕ) (s : State) (z : List Float) : Type 0 where
  pub recipe : recipe_of b ≡ items (items_of b)
  pub room : width * length (items_of b) ≤ length z
  pub state : Unfit (items_of b) (length b) s

pub record Demand1 : Type 0 where
  -- accepted, a bad number or ray, a malformed recipe, no room
  pub start : (b : List ℕ) (ray : Ray) (index : Float) (z : List Float)
      → Answers (1 ∷ 2 ∷ 3 ∷ 4 ∷ 10 ∷ 11 ∷ []) b (start_of b ray index z)
  pub whole : (b : List ℕ) (ray : Ray) (index : Float) (z : List Float)
      → Answers (1 ∷ 2 ∷ 3 ∷ 4 ∷ 10 ∷ 11 ∷ []) b (whole_of b ray index z)
  -- or a state that does not fit
  pub resume : (b : List ℕ) (s : State) (z : List Float) (allowed : ℕ)
      → Answers (1 ∷ 2 ∷ 3 ∷ 4 ∷ 10 ∷ 11 ∷ 12 ∷ []) b (continue_of b s z allowed)
  -- of one surface, for which there is no buffer and no state
  pub reach : (b : List ℕ) (ray : Ray) (index : Float) (k : ℕ) → AnswersOne b (reach_of b ray index k)
  -- in a program's file, whose places count from its start
  pub file_number : (f : List ℕ) (z : List Float)
      → one_of (1 ∷ 2 ∷ 3 ∷ 4 ∷ 10 ∷ 11 ∷ []) (start_file_of f z).answer.number ≡ true
  pub file_place : (f : List ℕ) (z : List Float) → let p = (start_file_of f z).answer.place in
      (p ≡ 0) ⊎ ((q : ℕ) × (p ≡ source_bytes + q) × GoodUpTo (drop source_bytes f) q)
  -- a refused start blanks the whole buffer
  pub refused_start : (b : List ℕ) (ray : Ray) (index : Float) (z : List Float)
      → (start_of b ray index z).answer.number ≢ 1 → Blanked z (start_of b ray index z)
  pub refused_whole : (b : List ℕ) (ray : Ray) (index : Float) (z : List Float)
      → (whole_of b ray index z).answer.number ≢ 1 → Blanked z (whole_of b ray index z)
  pub refused_file : (f : List ℕ) (z : List Float) → (start_file_of f z).answer.number ≢ 1 →
      Blanked z (start_file_of f z)
  -- a refused continuation changes nothing
  pub refused_resume : (b : List ℕ) (s : State) (z : List Float) (allowed : ℕ)
      → (continue_of b s z allowed).answer.number ≢ 1 → Unchanged s z (continue_of b s z allowed)
  -- 12 exactly if the recipe passes, there is room, and one of the conditions holds
  pub twelve : (b : List ℕ) (s : State) (z : List Float) (allowed : ℕ)
      → ((continue_of b s z allowed).answer.number ≡ 12) ↔ Refused12 b s z

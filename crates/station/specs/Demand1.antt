-- Demand 1 (SCOPE D1) as a controller sees it, through the lent arrays: which numbers each call answers, and what a
-- refused one leaves in all that it is lent. Definitions only.
use Rattle.std.specs.Prelude.{ℕ, ◌≡◌, ◌≢◌, ◌↔◌, List, [], ◌∷◌, true, length, replicate, Float}
use Rattle.numbers.specs.Arithmetic.{0f}
use Rattle.numbers.specs.Arithmetic.{one_of}
use Rattle.surfaces.specs.declared.types.Ray.{Ray}
use Rattle.trace.specs.Leg.{width}
use Rattle.trace.specs.Run.{start_of, whole_of}
use Rattle.trace.specs.Wanted.{reach_of}
use Rattle.trace.specs.Demand1.{GoodUpTo, Refused12}
use Rattle.station.specs.Lent.{Left, state_in, told, continued, LeftRow, told_row}

-- the verdict: one of the call's own numbers, and a place that is 0, or where the good records before it end
pub record Answers (numbers b : List ℕ) (w : Left) : Type 0 where
  pub number : one_of numbers w.verdict.number ≡ true
  pub place : GoodUpTo b w.verdict.place

-- what a refused start leaves: +0.0 in the buffer and in the state's numbers, and of its counts the outcome alone,
-- which is the refusal
pub record Blanked (z : List Float) (w : Left) : Type 0 where
  pub buffer : w.buffer ≡ replicate (length z) 0f
  pub counts : w.counts ≡ 0 ∷ 0 ∷ 0 ∷ 0 ∷ w.verdict.number ∷ []
  pub numbers : w.numbers ≡ replicate 9 0f

-- what a refused continuation leaves: all as it was
pub record Unchanged (c : List ℕ) (x z : List Float) (w : Left) : Type 0 where
  pub counts : w.counts ≡ c
  pub numbers : w.numbers ≡ x
  pub buffer : w.buffer ≡ z

-- what is told of one surface: one of the call's own numbers, such a place, and +0.0 throughout a refused one's record
pub record AnswersOne (b : List ℕ) (w : LeftRow) : Type 0 where
  pub number : one_of (1 ∷ 2 ∷ 3 ∷ 4 ∷ 10 ∷ []) w.verdict.number ≡ true
  pub place : GoodUpTo b w.verdict.place
  pub refused : w.verdict.number ≢ 1 → w.row ≡ replicate width 0f

pub record Demand1 : Type 0 where
  pub start : (b : List ℕ) (ray : Ray) (index : Float) (z : List Float)
      → Answers (1 ∷ 2 ∷ 3 ∷ 4 ∷ 10 ∷ 11 ∷ []) b (told (start_of b ray index z))
  pub whole : (b : List ℕ) (ray : Ray) (index : Float) (z : List Float)
      → Answers (1 ∷ 2 ∷ 3 ∷ 4 ∷ 10 ∷ 11 ∷ []) b (told (whole_of b ray index z))
  pub resume : (b c : List ℕ) (x z : List Float) (allowed : ℕ)
      → Answers (1 ∷ 2 ∷ 3 ∷ 4 ∷ 10 ∷ 11 ∷ 12 ∷ []) b (continued b c x z allowed)
  pub reach : (b : List ℕ) (ray : Ray) (index : Float) (k : ℕ) → AnswersOne b (told_row (reach_of b ray index k))
  pub refused_start : (b : List ℕ) (ray : Ray) (index : Float) (z : List Float) →
      let w = told (start_of b ray index z) in
      w.verdict.number ≢ 1 → Blanked z w
  pub refused_whole : (b : List ℕ) (ray : Ray) (index : Float) (z : List Float) →
      let w = told (whole_of b ray index z) in
      w.verdict.number ≢ 1 → Blanked z w
  pub refused_resume : (b c : List ℕ) (x z : List Float) (allowed : ℕ) →
      let w = continued b c x z allowed in
      w.verdict.number ≢ 1 → Unchanged c x z w
  -- 12 exactly if the recipe passes, there is room, and one of the conditions of SCOPE C5 holds of the state that the
  -- arrays hold
  pub twelve : (b c : List ℕ) (x z : List Float) (allowed : ℕ)
      → ((continued b c x z allowed).verdict.number ≡ 12) ↔ Refused12 b (state_in c x) z

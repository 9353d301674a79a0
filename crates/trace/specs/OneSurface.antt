-- The answer for one surface beside the full trace, and beside that of the recipe cut after its record. Definitions
-- only.
use Rattle.std.specs.Prelude.{ℕ, suc, ◌*◌, ◌≤◌, ◌<◌, ◌≡◌, List, length, take, drop, replicate, ltb, Float}
use Rattle.std.specs.Prelude.{if◌then◌else◌}
use Rattle.numbers.specs.Arithmetic.{0f}
use Rattle.surfaces.specs.declared.types.Ray.{Ray}
use Rattle.recipe.specs.Scan.{Scan, refused, items, item_at}
use Rattle.trace.specs.Leg.{width}
use Rattle.trace.specs.Run.{items_of, start_of, whole_of}
use Rattle.trace.specs.Wanted.{up_to, reach_of}

-- surface k's record in a result buffer
abbrev pub record_in : List Float → ℕ → List Float
record_in z k = take width (drop (width * k) z)

-- the recipe cut after record k: uncut where a record up to it is refused, or there is none
abbrev pub cut_on : Scan → List ℕ → ℕ → List ℕ
cut_on (refused n p) b k = b
cut_on (items l) b k = if ltb k (length l) then take (item_at l k).next b else b

unfoldable pub cut : List ℕ → ℕ → List ℕ
cut b k = cut_on (up_to b k) b k

-- one recipe and ray that pass the start's checks, and the surface of a number that it has
module _ (b : List ℕ) (ray : Ray) (index : Float) (z : List Float) (k : ℕ) where
  pub record InFull : Type 0 where
    -- the record is that of the full trace's buffer
    pub answer : reach_of b ray index k
        ≡ record { number = 1; place = 0; row = record_in (whole_of b ray index z).buffer k }
    -- and blank where the beam ended earlier
    pub ended : (whole_of b ray index z).answer.state.number < k → (reach_of b ray index k).row ≡ replicate width 0f

pub record OneSurface : Type 0 where
  pub in_full : (b : List ℕ) (ray : Ray) (index : Float) (z : List Float) (k : ℕ)
      → (start_of b ray index z).answer.number ≡ 1 → k < length (items_of b) → InFull b ray index z k
  -- it is always the answer for the cut recipe
  pub by_cut : (b : List ℕ) (ray : Ray) (index : Float) (k : ℕ) →
      reach_of b ray index k ≡ reach_of (cut b k) ray index k
  -- which, where that is a record, passes the start's checks and ends with it, so that its full trace has it
  pub cut_passes : (b : List ℕ) (ray : Ray) (index : Float) (z : List Float) (k : ℕ)
      → (reach_of b ray index k).number ≡ 1 → width * suc k ≤ length z
      → ((start_of (cut b k) ray index z).answer.number ≡ 1) × (length (items_of (cut b k)) ≡ suc k)

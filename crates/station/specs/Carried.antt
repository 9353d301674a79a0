-- What a controller may count on beside each promise: demand 3 (SCOPE D3) through the lent arrays, and counts that no
-- state holds. Definitions only.
use Rattle.std.specs.Prelude.{ℕ, ◌*◌, ◌≤◌, ◌≡◌, ◌⊎◌, List, [], ◌∷◌, length, get_or, ltb, Float, if◌then◌else◌}
use Rattle.surfaces.specs.declared.types.Ray.{Ray}
use Rattle.recipe.specs.Scan.{Scan, refused, items}
use Rattle.trace.specs.Leg.{width}
use Rattle.trace.specs.Run.{recipe_of, start_of}
use Rattle.trace.specs.Demand3.{Accepted, called}
use Rattle.station.specs.declared.Verdict.{Verdict}
use Rattle.station.specs.Lent.{Left, left, told, continued}

-- a row of scans, each on the arrays and the buffer that the last left
unfoldable pub scans : List ℕ → List ℕ → Left → Left
scans b [] w = w
scans b (a ∷ l) w = scans b l (continued b w.counts w.numbers w.buffer a)

-- passes or an outcome that the state's types cannot hold
abbrev pub Beyond : List ℕ → Type 0
Beyond c = (65536 ≤ get_or c 2 0) ⊎ (256 ≤ get_or c 4 0)

-- the recipe's checks, then 11, then 12
abbrev pub unfit : Scan → ℕ → Verdict
unfit (refused n p) room = record { number = n; place = p }
unfit (items l) room = record { number = if ltb room (width * length l) then 11 else 12; place = 0 }

pub record Carried : Type 0 where
  -- one accepted start and any allowances: the scans leave what the trace's own calls leave, of which demand 3 speaks
  pub carries : (b : List ℕ) (ray : Ray) (index : Float) (z : List Float) (allowances : List ℕ) → Accepted b ray index z
      → scans b allowances (told (start_of b ray index z)) ≡ told (called b ray index z allowances)
  -- counts beyond the state's types are refused, and nothing is written
  pub refuses : (b c : List ℕ) (x z : List Float) (allowed : ℕ) → Beyond c
      → continued b c x z allowed ≡ left (unfit (recipe_of b) (length z)) c x z

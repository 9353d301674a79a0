-- A recipe that is too long is refused, and its first bytes alone say why and where. Definitions only.
use Rattle.std.specs.Prelude.{ℕ, ◌+◌, ◌≤◌, ◌<◌, ◌≡◌, true, List, length, take}
use Rattle.recipe.specs.Record.{longest}
use Rattle.recipe.specs.Scan.{Scan, refused, scan}

-- one refusal of both, at a place that is not past the last
pub record RefusedAlike (x y : Scan) (last : ℕ) : Type 0 where
  pub number : ℕ
  pub place : ℕ
  pub one : x ≡ refused number place
  pub other : y ≡ refused number place
  pub within : place ≤ last

abbrev pub TooLong : Type 0
TooLong = (b : List ℕ) (most : ℕ) → longest < length b
    → RefusedAlike (scan true b most 0) (scan true (take (longest + 1) b) most 0) longest

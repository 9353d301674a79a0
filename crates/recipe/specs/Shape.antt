-- What the shape of a record tells of its places: all that is read of it lies within it, and it within the recipe.
-- Definitions only.
use Rattle.std.specs.Prelude.{ℕ, ◌+◌, ◌*◌, ◌/◌, ◌≤◌}
use Rattle.recipe.specs.Record.{longest, semi_slot, odd_count, even_count}

-- a length that a kind has, and what it has room for
pub record Fitting (kind len : ℕ) : Type 0 where
  pub least : 42 ≤ len
  pub numbers : 2 + 8 * (len / 8) ≤ len
  pub semi : 10 + 8 * semi_slot kind ≤ len
  pub even : even_count kind len ≤ 8
  pub odd : odd_count kind ≤ 8
  pub terms : 42 + 8 * even_count kind len + 8 * odd_count kind ≤ len

-- a record at a place of so many bytes, by its own shape, and with its end
pub record Formed (n at kind len : ℕ) : Type 0 where
  pub inside : at + 2 + len ≤ n
  pub fitting : Fitting kind len

pub record Shape (n at kind len : ℕ) : Type 0 where
  pub own : Formed n at kind len
  pub end : at + 2 + len ≤ longest

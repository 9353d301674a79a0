-- What a program may leave unread: a recipe longer than 65,536 bytes is refused by its first 65,537 alone.
-- Definitions only.
use Rattle.std.specs.Prelude.{ℕ, ◌+◌, ◌<◌, ◌≡◌, ◌≢◌, List, length, take, Float}
use Rattle.surfaces.specs.declared.types.Ray.{Ray}
use Rattle.recipe.specs.Record.{longest}
use Rattle.recipe.specs.Source.{source_bytes}
use Rattle.trace.specs.Run.{start_of}
use Rattle.trace.specs.File.{start_file_of}

-- the longest file of a program: the ray's record, and then the longest recipe
abbrev pub longest_file : ℕ
longest_file = source_bytes + longest

pub record Long : Type 0 where
  pub recipe : (b : List ℕ) (ray : Ray) (index : Float) (z : List Float) → longest < length b
      → (start_of b ray index z ≡ start_of (take (longest + 1) b) ray index z)
      × ((start_of b ray index z).answer.number ≢ 1)
  pub file : (f : List ℕ) (z : List Float) → longest_file < length f
      → (start_file_of f z ≡ start_file_of (take (longest_file + 1) f) z) × ((start_file_of f z).answer.number ≢ 1)

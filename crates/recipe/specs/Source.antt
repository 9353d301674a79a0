-- Kind 0, which stands first in a program's file: origin, direction and starting index. Definitions only.
use Rattle.std.specs.Prelude.{ℕ, ◌+◌, List, Bool, ◌&&◌, length, eqb, leb, Float, if◌then◌else◌}
use Rattle.std.specs.Prelude.{Option, Some, None}
use Rattle.numbers.specs.Arithmetic.{0f}
use Rattle.surfaces.specs.Types.{vec, no_ray}
use Rattle.surfaces.specs.declared.types.Vec3.{Vec3}
use Rattle.surfaces.specs.declared.types.Ray.{Ray}
use Rattle.recipe.specs.declared.source.Source.{Source}
use Rattle.recipe.specs.Record.{length_at, kind_at, slot_at}

-- how many bytes it takes
abbrev pub source_bytes : ℕ
source_bytes = 60

unfoldable pub is_source : List ℕ → Bool
is_source b = leb source_bytes (length b) && eqb (length_at b 0) 58 && eqb (kind_at b 0) 0

unfoldable pub vector_at : List ℕ → ℕ → Vec3
vector_at b i = vec (slot_at b 0 i) (slot_at b 0 (i + 1)) (slot_at b 0 (i + 2))

-- what a reader says: 1, the ray and the index that it starts in, or 10
pub record SourceRow : Type 0 where
  pub number : ℕ
  pub ray : Ray
  pub index : Float

abbrev pub no_source : SourceRow
no_source = record { number = 10; ray = no_ray; index = 0f }

unfoldable pub source_of : List ℕ → SourceRow
source_of b =
    let ray : Ray = record { origin = vector_at b 0; direction = vector_at b 3 } in
    if is_source b then record { number = 1; ray = ray; index = slot_at b 0 6 } else
    no_source

-- what is read of a file, as such a row
abbrev pub told_source : Option Source → SourceRow
told_source (Some s) = record { number = 1; ray = s.ray; index = s.index }
told_source None = no_source

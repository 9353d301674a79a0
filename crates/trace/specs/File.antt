-- What a start answers to a program's file, and what it says of the bytes behind its ray. Definitions only.
use Rattle.std.specs.Prelude.{ℕ, ◌+◌, ◌≡◌, ◌≢◌, not, List, drop, eqb, Float, if◌then◌else◌}
use Rattle.recipe.specs.Scan.{Item, refused, items}
use Rattle.recipe.specs.Source.{source_of, source_bytes}
use Rattle.trace.specs.Run.{Reply, recipe_of, blank, refused_reply, start_at, start_of}

-- a program's file: the kind 0 record, then the start on the rest, places from the file's start
unfoldable pub start_file_of : List ℕ → List Float → Reply
start_file_of f z =
    let s = source_of f in
    if not (eqb s.number 1) then refused_reply 10 0 (blank z) else
    start_at source_bytes (drop source_bytes f) s.ray s.index z

-- the bytes behind the ray, and the start on them
abbrev pub behind_ray : List ℕ → List ℕ
behind_ray f = drop source_bytes f

abbrev pub start_behind : List ℕ → List Float → Reply
start_behind f z = start_of (behind_ray f) (source_of f).ray (source_of f).index z

pub record File : Type 0 where
  -- an accepted start of a file is the accepted start of the bytes behind its ray, so that demand 3 speaks of it
  pub accepted : (f : List ℕ) (z : List Float) → (start_file_of f z).answer.number ≡ 1
      → ((source_of f).number ≡ 1) × (start_file_of f z ≡ start_behind f z)
  -- without kind 0, 10 at 0
  pub without_ray : (f : List ℕ) (z : List Float) → (source_of f).number ≢ 1
      → start_file_of f z ≡ refused_reply 10 0 (blank z)
  -- a record's refusal is that of the bytes behind the ray, with its place from the file's start
  pub bad_record : (f : List ℕ) (z : List Float) (n p : ℕ) → (source_of f).number ≡ 1
      → recipe_of (behind_ray f) ≡ refused n p
      → start_file_of f z ≡ refused_reply n (source_bytes + p) (blank z)
  -- where the records are good, the start is that of the bytes behind the ray, whose refusals have the place 0
  pub good_records : (f : List ℕ) (z : List Float) (l : List Item) → (source_of f).number ≡ 1
      → recipe_of (behind_ray f) ≡ items l
      → start_file_of f z ≡ start_behind f z

-- A recipe that is too long is refused by its first bytes. Assumes nothing.
use Rattle.std.specs.Prelude.{if◌then◌else◌}
use Prim.Native.Nat.{ℕ, zero, suc, ◌+◌, ◌<◌}
use mathlib.Core.Path.{◌≡◌, subst}
use mathlib.Core.Logic.{◌≢◌}
use mathlib.Core.List.{List, [], ◌∷◌}
use mathlib.Core.Bool.{Bool, true, false, not}
use native.Mathlib.Nat.{zero-add}
use native.Mathlib.Omega.{arith}
use lib.ListN.{length, take, drop, length-drop}
use lib.Seq.{take-nil}
use lib.Dec.{eqb}
use lib.Ieee.{Float}
use Rattle.surfaces.specs.declared.types.Ray.{Ray}
use Rattle.recipe.specs.Record.{longest}
use Rattle.recipe.specs.Source.{source_bytes, source_of}
use Rattle.recipe.proofs.Records.{not_1}
use Rattle.recipe.proofs.Scans.{Sound, scan_sound}
use Rattle.recipe.proofs.Length.{too_long}
use Rattle.recipe.proofs.Sources.{source_take}
use Rattle.trace.specs.Run.{most_records, blank, refused_answer, start_at, start_of}
use Rattle.trace.specs.File.{start_file_of}
use Rattle.trace.specs.Long.{longest_file, Long}

module _ (b : List ℕ) (long : longest < length b) (base : ℕ) (ray : Ray) (index : Float) (z : List Float) where
  alike : start_at base b ray index z ≡ start_at base (take (longest + 1) b) ray index z
  unfolding start_at
  alike = let r = too_long b most_records long in rw (r.one, r.other)

  off : (start_at base b ray index z).answer.number ≢ 1
  unfolding start_at refused_answer
  off =
      let r = too_long b most_records long in
      rw r.one (not_1 (subst Sound r.one (scan_sound true b most_records 0)))

drop_take : (k n : ℕ) (l : List ℕ) → drop k (take (k + n) l) ≡ take n (drop k l)
drop_take zero n l = rw (zero-add n)
drop_take (suc k) n [] = rw (take-nil (suc k + n), take-nil n)
drop_take (suc k) n (x ∷ l) = let e : suc k + n ≡ suc (k + n) = omega arith in rw e (drop_take k n l)

module _ (f : List ℕ) (z : List Float) (long : longest_file < length f) where
  rest : longest < length (drop source_bytes f)
  rest = let e = length-drop source_bytes f in omega arith

  file_alike : start_file_of f z ≡ start_file_of (take (longest_file + 1) f) z
  unfolding start_file_of
  file_alike =
      rw (
        source_take f (longest_file + 1) (omega arith) (omega arith),
        drop_take source_bytes (longest + 1) f,
        alike (drop source_bytes f) rest source_bytes (source_of f).ray (source_of f).index z,
      )

  file_off : (start_file_of f z).answer.number ≢ 1
  unfolding start_file_of refused_answer
  file_off = by (eqb (source_of f).number 1)
    where
      by : (t : Bool)
          → (if not t then record { answer = refused_answer 10 0; buffer = blank z } else
          start_at source_bytes (drop source_bytes f) (source_of f).ray (source_of f).index z).answer.number ≢ 1
      by false = λ e. omega arith
      by true = off (drop source_bytes f) rest source_bytes (source_of f).ray (source_of f).index z

pub long : Long
unfolding start_of
long =
    record {
      recipe = λ b ray index z h. (alike b h 0 ray index z, off b h 0 ray index z);
      file = λ f z h. (file_alike f z h, file_off f z h);
    }

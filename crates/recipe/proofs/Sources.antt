-- The record of the ray is read from its own bytes. Assumes nothing.
use Prim.Native.Nat.{ℕ, ◌≤◌}
use mathlib.Core.Path.{◌≡◌}
use mathlib.Core.List.{List}
use native.Mathlib.Omega.{arith}
use lib.ListN.{length, take}
use lib.Seq.{length-take-le}
use borrow.Author.Tests.{le-leb}
use Rattle.recipe.specs.Source.{source_bytes, is_source, vector_at, source_of}
use Rattle.recipe.proofs.Length.{u16_take, slot_take}

pub source_take : (f : List ℕ) (n : ℕ) → source_bytes ≤ n → n ≤ length f → source_of (take n f) ≡ source_of f
unfolding source_of is_source vector_at
source_take f n low high =
    rw (
      length-take-le n f high,
      le-leb source_bytes n low,
      le-leb source_bytes (length f) (omega arith),
      u16_take f n 0 (omega arith),
      u16_take f n 2 (omega arith),
      slot_take f n 0 0 (omega arith),
      slot_take f n 0 1 (omega arith),
      slot_take f n 0 2 (omega arith),
      slot_take f n 0 3 (omega arith),
      slot_take f n 0 4 (omega arith),
      slot_take f n 0 5 (omega arith),
      slot_take f n 0 6 (omega arith),
    )

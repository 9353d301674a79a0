-- What the two counts in a record's line are, and what of a long file a program may leave unread. Definitions only.
use Rattle.std.specs.Prelude.{◌≡◌, ℕ, ◌+◌, ◌<◌, ◌≢◌, List, [], length, take, slice_index_or}
use Rattle.recipe.specs.declared.record.Optic.{Optic}
use Rattle.trace.specs.declared.leg.Beam.{Beam}
use Rattle.trace.specs.Unbroken.{Mark, Trace, unbroken}
use Rattle.trace.specs.Long.{longest_file}
use Rattle.tracelist.specs.Listing.{count_in, listing}

-- a trace's record of a number, and none past the last
abbrev pub mark_at : Trace → ℕ → Mark
mark_at u k = slice_index_or u.marks k (record { row = []; steps = 0 })

pub record Shown : Type 0 where
  -- a hit's status is 1
  pub hit : (first : ℕ) (l : List Optic) (b : Beam) (k : ℕ) →
      let u = unbroken first l b in
      k < u.hits → count_in (mark_at u k).row 0 ≡ 1
  -- that of the refusal behind the hits is its number, the trace's outcome
  pub refusal : (first : ℕ) (l : List Optic) (b : Beam) →
      let u = unbroken first l b in
      u.outcome ≢ 1 → count_in (mark_at u u.hits).row 0 ≡ u.outcome
  -- the steps are the passes that the surface's rule takes
  pub steps : (first : ℕ) (l : List Optic) (b : Beam) (k : ℕ) →
      let u = unbroken first l b in
      k < length u.marks → count_in (mark_at u k).row 12 ≡ (mark_at u k).steps
  -- a file longer than the longest is told by so many of its bytes and one
  pub long : (f : List ℕ) → longest_file < length f → listing f ≡ listing (take (longest_file + 1) f)

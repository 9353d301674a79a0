-- A file's listing, by the start and by what a whole trace leaves. Assumes nothing.
use Rattle.std.proofs.Common.{◌≡◌, ℕ, ◌≤◌, true, ◌≢◌, List, length, sym, ap, ◌∙◌, arith, eq-eqb, ne_eqb}
use lib.Ieee.{Float}
use lib.ListN.{length-map}
use Rattle.surfaces.specs.declared.types.Ray.{Ray}
use Rattle.recipe.specs.Scan.{Item, place_of}
use Rattle.recipe.specs.Source.{source_of}
use Rattle.recipe.proofs.Scans.{scan_sound, scan_few}
use Rattle.trace.specs.Unbroken.{Trace, total, rows, padded}
use Rattle.trace.specs.State.{standing}
use Rattle.trace.specs.Run.{most_records, Reply, reply, recipe_of, items_of, optics_of, blank, beam_of, start_at}
use Rattle.trace.specs.Run.{start_of, whole_of}
use Rattle.trace.specs.Demand3.{trace_of}
use Rattle.trace.specs.File.{start_file_of, behind_ray}
use Rattle.trace.proofs.Starts.{Admitted, admitted_by, admitted_is}
use Rattle.trace.proofs.Files.{file}
use Rattle.tracelist.specs.Listing.{refused_line, trace_lines, room, listing}
use Rattle.tracelist.specs.Parts.{records_of, state_lines}
use Rattle.tracelist.proofs.Marks.{Shaped, shaped, rows_lines, marks_counted, marks_few}

abbrev number : Reply → ℕ
number r = r.answer.number

-- a start answers by the buffer's length alone
pub start_alike : (f : List ℕ) (y z : List Float) → length y ≡ length z → start_file_of f y ≡ start_file_of f z
unfolding start_file_of start_at
start_alike f y z e = rw e

module _ (f : List ℕ) where
  -- a refused start
  pub refused_listing : (start_file_of f room).answer.number ≢ 1
      → listing f ≡ refused_line (start_file_of f room).answer.number (start_file_of f room).answer.place
  unfolding listing
  refused_listing h = rw (ne_eqb _ _ h)

  -- an accepted one, and a buffer of as many numbers
  module _ (ok : (start_file_of f room).answer.number ≡ 1) (z : List Float) (size : length z ≡ length room) where
    abbrev b : List ℕ
    b = behind_ray f

    abbrev ray : Ray
    ray = (source_of f).ray

    abbrev index : Float
    index = (source_of f).index

    abbrev u : Trace
    u = trace_of b ray index

    admission : Admitted (recipe_of b) ray index (blank z)
    unfolding start_of start_at
    admission =
        let number_is = ap number (start_alike f z room size) ∙ ok in
        let started = file.accepted f z number_is in
        admitted_by 0 ray index (blank z) (recipe_of b) (scan_sound true b most_records 0) _
        (sym (ap number started.1) ∙ number_is)

    -- what the whole trace behind the ray leaves
    left :
        let place = place_of (items_of b) (length b) u.hits in
        let end = standing u.hits place u.beam (total u.marks) u.outcome in
        whole_of b ray index z ≡ reply 1 0 end (padded (length (blank z)) (rows u.marks))
    unfolding whole_of trace_of
    left = admitted_is 0 ray index (blank z) (recipe_of b) admission _

    shape : Shaped u
    unfolding trace_of
    shape = shaped 0 (optics_of (items_of b)) (beam_of ray index)

    module _ (r : Reply) (whole : r ≡ whole_of b ray index z) where
      pub traced_accepted : r.answer.number ≡ 1
      traced_accepted = ap number (whole ∙ left)

      pub few_records : records_of r.answer.state.outcome r.answer.state.number ≤ most_records
      unfolding trace_of
      few_records =
          let m = length-map (items_of b) (λ (i : Item). i.optic) in
          let few = marks_few 0 (optics_of (items_of b)) (beam_of ray index) in
          rw (whole ∙ left, ← marks_counted shape) (omega (arith, few, scan_few true b most_records 0))

      -- its lines are the listing
      pub traced_listing : state_lines r.buffer r.answer.state ≡ listing f
      unfolding state_lines padded trace_lines listing
      traced_listing = rw (whole ∙ left, ← marks_counted shape, rows_lines shape 0 _, eq-eqb _ _ ok)

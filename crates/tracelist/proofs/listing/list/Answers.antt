-- A refused start, or the whole trace of the bytes behind the ray. Assumes nothing.
use Rattle.std.proofs.Common.{◌≡◌, ℕ, ◌-◌, ◌≤◌, ◌≢◌, List, length, take, sym, refl, ap, ◌∙◌, arith, length-drop}
use Rattle.std.proofs.Common.{take_all, rules}
use lib.Ieee.{Float}
use Rattle.std.specs.Prelude.{Option, Some, None, IsSome, Result, Ok, Err, IsOk}
use Rattle.recipe.specs.declared.source.Source.{Source}
use Rattle.recipe.specs.Source.{SourceRow, source_bytes, source_of, told_source}
use Rattle.trace.specs.declared.refusal.Refused.{Refused}
use Rattle.trace.specs.declared.state.State.{State}
use Rattle.trace.specs.Run.{most_records, Answer, Reply, refused_answer, told_start, whole_of}
use Rattle.trace.specs.File.{start_file_of, behind_ray}
use Rattle.trace.proofs.Starts.{why_not_1}
use Rattle.trace.proofs.Files.{source_long, file}
use Rattle.tracelist.specs.Listing.{refused_line, room, listing, filled}
use Rattle.tracelist.specs.Parts.{records_of, state_lines}
use Rattle.tracelist.proofs.Traces.{start_alike, refused_listing, few_records, traced_listing}
use Rattle.tracelist.proofs.Traces.{traced_accepted}
use Rattle.tracelist.proofs.listing.list.Goals as goal
use Rattle.tracelist.proofs.listing.list.Goals.{After-unwrap-source, After-unwrap-end}

module _ (f : List ℕ) (z y : List Float) (a : Answer) (size : length z ≡ length room)
    (first : record { answer = a; buffer = y } ≡ start_file_of f z) where
  started : record { answer = a; buffer = y } ≡ start_file_of f room
  started = first ∙ start_alike f z room size

  numbered : a.number ≡ (start_file_of f room).answer.number
  numbered = ap (λ (r : Reply). r.answer.number) started

  refused_list : a.number ≢ 1 → refused_line a.number a.place ≡ listing f
  refused_list h =
      ap (λ (r : Reply). refused_line r.answer.number r.answer.place) started
      ∙ sym (refused_listing f (λ w. h (numbered ∙ w)))

  module _ (ok : a.number ≡ 1) where
    accepted : (start_file_of f room).answer.number ≡ 1
    accepted = sym numbered ∙ ok

    long_file : source_bytes ≤ length f
    long_file = source_long f (file.accepted f room accepted).0

    module _ (room-left : length y ≡ length room) (s : SourceRow) (read : s ≡ source_of f) (r : Reply)
        (traced : r ≡ whole_of (take (length f - source_bytes) (behind_ray f)) s.ray s.index y) where
      whole : r ≡ whole_of (behind_ray f) (source_of f).ray (source_of f).index y
      whole = rw (read, take_all (length f - source_bytes) (behind_ray f) (simp length-drop (omega arith))) at traced

      few : records_of r.answer.state.outcome r.answer.state.number ≤ most_records
      few = few_records f accepted y room-left r whole

      traced_list : state_lines r.buffer r.answer.state ≡ listing f
      traced_list = traced_listing f accepted y room-left r whole

      traced_number : r.answer.number ≡ 1
      traced_number = traced_accepted f accepted y room-left r whole

-- what is told of what there is
some_source : (o : Option Source) → (told_source o).number ≡ 1 → IsSome o
some_source (Some s) h = refl
some_source None h = absurd (omega arith)

is_started : (r : Result State Refused) → (told_start r).number ≡ 1 → IsOk r
unfolding refused_answer
is_started (Ok s) h = refl
is_started (Err e) h = absurd (why_not_1 e.why h)

module _ (c : After-unwrap-source) where
  read : told_source (Some c.unwrap-source.result) ≡ source_of c.args.file.now
  read = ap told_source (sym c.unwrap-source.ensures) ∙ c.read_source.ensures

  long : source_bytes ≤ length c.args.file.now
  long = long_file _ _ _ _ refl c.in-Ok.ensures refl

pub unwrap-source-requires : goal.unwrap-source-requires
unwrap-source-requires c =
    let f = c.args.file.now in
    let there = (file.accepted f room (accepted _ _ _ _ refl c.in-Ok.ensures refl)).0 in
    some_source _ (ap (λ (s : SourceRow). s.number) c.read_source.ensures ∙ there)

pub slice_bounds-recipe-count : goal.slice_bounds-recipe-count
slice_bounds-recipe-count c = long c

pub slice_bounds-recipe-start : goal.slice_bounds-recipe-start
slice_bounds-recipe-start c = let h = long c in search rules

pub unwrap-end-requires : goal.unwrap-end-requires
unwrap-end-requires c =
    let at = (goal.at.unwrap-end-requires c).After-unwrap-source in
    is_started _
    (traced_number _ _ _ _ refl c.in-Ok.ensures refl (search rules) _ (read at) _ c.whole.ensures)

-- what the whole trace tells, by its state
abbrev told_reply : Result State Refused → List Float → Reply
told_reply r z = record { answer = told_start r; buffer = z }

traced : (c : After-unwrap-end) → told_reply (Ok c.unwrap-end.result) c.whole.new.buf
    ≡ told_reply c.whole.result c.whole.new.buf
traced c = ap (λ (r : Result State Refused). told_reply r c.whole.new.buf) (sym c.unwrap-end.ensures)

pub put_trace-requires : goal.put_trace-requires
put_trace-requires c =
    let at = goal.at.put_trace-requires c in
    few _ _ _ _ refl c.in-Ok.ensures refl (search rules)
    _ (read at.After-unwrap-source) _ (traced at.After-unwrap-end ∙ c.whole.ensures)

pub returns-in-Ok : goal.returns-in-Ok
returns-in-Ok c =
    let at = goal.at.returns-in-Ok c in
    c.put_trace.ensures
    ∙ ap (filled _)
    (traced_list _ _ _ _ refl c.in-Ok.ensures refl (search rules)
    _ (read at.After-unwrap-source) _ (traced at.After-unwrap-end ∙ c.whole.ensures))

pub returns-in-Err : goal.returns-in-Err
unfolding refused_answer
returns-in-Err c =
    c.put_refused.ensures
    ∙ ap (filled _) (refused_list _ _ _ _ refl c.in-Err.ensures (why_not_1 c.in-Err.e.why))

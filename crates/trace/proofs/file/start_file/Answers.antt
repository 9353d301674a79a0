-- Without the record of the ray the file is refused, and with it the start on the rest decides. Assumes nothing.
use Rattle.std.proofs.Common.{◌≡◌, ◌≤◌, length, length-drop, drop, refl, sym, ap, ◌∙◌, arith, rules}
use Rattle.std.specs.Prelude.{Some}
use Rattle.std.proofs.lemmas.Result.{err_from_is_err_and}
use Rattle.recipe.specs.Scan.{Verdict}
use Rattle.recipe.specs.Source.{SourceRow, source_bytes, source_of, told_source}
use Rattle.trace.specs.Run.{begun_of}
use Rattle.trace.proofs.Starts.{bad_begun}
use Rattle.trace.proofs.Files.{source_long, place_within, source_there, source_missing, rest_checked}
use Rattle.trace.proofs.Files.{without_source, with_source}
use Rattle.trace.proofs.file.start_file.Goals as goal
use Rattle.trace.proofs.file.start_file.Goals.{In_ok-s}

-- the record of the ray, and the room that it tells of
read : (c : In_ok-s) → told_source (Some c.in_ok-s.s) ≡ source_of c.args.file.now
read c = sym (source_there _ _ _ c.in_ok-s.ensures.value) ∙ c.read_source.ensures

long : (c : In_ok-s) → source_bytes ≤ length c.args.file.now
long c = source_long c.args.file.now (ap (λ (s : SourceRow). s.number) (sym (read c)))

pub returns-in_err-s : goal.returns-in_err-s
returns-in_err-s c =
    let f = c.args.file.now in
    let p = err_from_is_err_and c.from_residual.result c.from_residual.ensures.1 in
    let none = source_missing _ _ _ c.in_err-s.ensures.value in
    rw (p.1, p.2, none.1)
    (without_source f c.args.buf.now _ c.blank_out.ensures _ (sym none.0 ∙ c.read_source.ensures) _ (λ e. omega arith)
    refl)

pub slice_bounds-check-count : goal.slice_bounds-check-count
slice_bounds-check-count c = long (goal.at.slice_bounds-check-count c).In_ok-s

pub slice_bounds-check-start : goal.slice_bounds-check-start
slice_bounds-check-start c = let l = long (goal.at.slice_bounds-check-start c).In_ok-s in search rules

pub overflow_add-result : goal.overflow_add-result
overflow_add-result c =
    let at = goal.at.overflow_add-result c in
    let f = c.args.file.now in
    let l = long at.In_ok-s in
    let place = ap (λ (k : Verdict). k.place) (rest_checked f l _ c.in-Err.ensures) in
    let good = c.well_formed in
    omega (arith, place_within (drop source_bytes f) 0, place, length-drop source_bytes f, l, good)

pub returns-in-Ok : goal.returns-in-Ok
unfolding begun_of
returns-in-Ok c =
    let f = c.args.file.now in
    let at = (goal.at.returns-in-Ok c).In_ok-s in
    with_source f c.args.buf.now _ c.blank_out.ensures _ (read at) _ refl _ (rest_checked f (long at) _ c.in-Ok.ensures)
    c.begin.ensures

pub returns-in-Err : goal.returns-in-Err
returns-in-Err c =
    let f = c.args.file.now in
    let at = (goal.at.returns-in-Err c).In_ok-s in
    with_source f c.args.buf.now _ c.blank_out.ensures _ (read at) _ refl _
    (rest_checked f (long at) _ c.in-Err.ensures) (bad_begun _ source_bytes _ _ _ _ refl)

-- A program's file: the record of the ray, and the start on the rest. Assumes nothing.
use Rattle.std.specs.Prelude.{if◌then◌else◌, Option, Some, None, Ok, Err}
use Rattle.std.specs.Option.{ok_or}
use Prim.Native.Nat.{ℕ, ◌+◌, ◌-◌, ◌≤◌}
use mathlib.Core.Path.{◌≡◌, refl, sym, ◌∙◌, ap}
use mathlib.Core.Logic.{◌≢◌}
use mathlib.Core.List.{List}
use mathlib.Core.Bool.{Bool, true, false}
use native.Mathlib.Omega.{arith}
use lib.ListN.{length, take, drop, length-drop}
use lib.Seq.{take_all}
use lib.Dec.{eqb}
use lib.Ieee.{Float}
use borrow.Author.Tests.{eq-eqb, ne_eqb, eqb-true, eqb-false}
use Rattle.recipe.specs.Scan.{Verdict}
use Rattle.recipe.specs.declared.source.Source.{Source}
use Rattle.recipe.specs.Scan.{Item, Scan, refused, items, nothing, scan, says, check_of}
use Rattle.recipe.specs.Source.{SourceRow, no_source, told_source, source_bytes, is_source, source_of}
use Rattle.recipe.proofs.Notes.{notes_answer}
use Rattle.recipe.proofs.Records.{not_1}
use Rattle.recipe.proofs.Scans.{scan_sound, scan_place}
use Rattle.recipe.proofs.Shapes.{source_room}
use Rattle.trace.specs.Run.{Answer}
use Rattle.trace.specs.Run.{most_records, Reply, recipe_of, blank, begun_of, start_at, start_of, refused_answer}
use Rattle.trace.specs.Run.{refused_reply}
use Rattle.trace.specs.File.{start_file_of, behind_ray, start_behind, File}
use Rattle.trace.proofs.Starts.{start_is}

pub source_long : (f : List ℕ) → (source_of f).number ≡ 1 → source_bytes ≤ length f
unfolding source_of is_source
source_long f h = by _ _ refl (is_source f) refl h
  where
    by : (x w : SourceRow) → w.number ≡ 10 → (t : Bool) → is_source f ≡ t → (if t then x else w).number ≡ 1
        → source_bytes ≤ length f
    by x w n true e k = source_room f e
    by x w n false e k = absurd (omega (arith, n, k))

-- a check's place is within the recipe
pub place_within : (b : List ℕ) (w : ℕ) → (check_of b most_records true w).place ≤ length b
unfolding check_of
place_within b w = by (scan true b most_records 0) refl
  where
    by : (r : Scan) → scan true b most_records 0 ≡ r → (says w nothing r).place ≤ length b
    by (refused n p) e = let h = scan_place true b most_records 0 e in omega arith
    by (items l) e = omega (arith, (notes_answer w nothing l).1)

-- the record of the ray, as it is looked for
pub source_there : {E : Type 0} (o : Option Source) (s : Source) (e : E) → Ok s ≡ ok_or o e
    → told_source o ≡ told_source (Some s)
source_there (Some x) s e q = let same : x ≡ s = cc in ap (λ (y : Source). told_source (Some y)) same
source_there None s e q = cc

pub source_missing : {E : Type 0} (o : Option Source) (d e : E) → Err d ≡ ok_or o e
    → (told_source o ≡ no_source) × (d ≡ e)
source_missing (Some x) d e q = cc
source_missing None d e q = (refl, cc)

-- the bytes behind it are the whole rest
pub rest_checked : (f : List ℕ) → source_bytes ≤ length f → (c : Verdict)
    → c ≡ check_of (take (length f - source_bytes) (drop source_bytes f)) most_records true 0
    → c ≡ check_of (drop source_bytes f) most_records true 0
rest_checked f h c e =
    let whole = take_all (length f - source_bytes) (drop source_bytes f) (simp length-drop (omega arith)) in
    e ∙ ap (λ (l : List ℕ). check_of l most_records true 0) whole

module _ (f : List ℕ) (z y : List Float) (blanked : y ≡ blank z) (s : SourceRow)
    (read : s ≡ source_of f) (a : Answer) where
  pub without_source : s.number ≢ 1 → a ≡ refused_answer 10 0 → record { answer = a; buffer = y } ≡ start_file_of f z
  unfolding start_file_of
  without_source h e = rw (← read, ne_eqb s.number 1 h, e, blanked)

  pub with_source : s.number ≡ 1 → (c : Verdict) → c ≡ check_of (drop source_bytes f) most_records true 0
      → a ≡ begun_of c source_bytes s.ray s.index (length y) → record { answer = a; buffer = y } ≡ start_file_of f z
  unfolding start_file_of
  with_source h c checked begun =
      rw (← read, eq-eqb s.number 1 h)
      (start_is (drop source_bytes f) c checked source_bytes s.ray s.index z y a blanked begun)

module _ (f : List ℕ) (z : List Float) where
  without_ray : (source_of f).number ≢ 1 → start_file_of f z ≡ refused_reply 10 0 (blank z)
  without_ray h = sym (without_source f z (blank z) refl (source_of f) refl (refused_answer 10 0) h refl)

  module _ (ray : (source_of f).number ≡ 1) where
    bad_record : (n p : ℕ) → recipe_of (behind_ray f) ≡ refused n p
        → start_file_of f z ≡ refused_reply n (source_bytes + p) (blank z)
    unfolding start_file_of start_at
    bad_record n p e = rw (eq-eqb (source_of f).number 1 ray, e)

    good_records : (l : List Item) → recipe_of (behind_ray f) ≡ items l → start_file_of f z ≡ start_behind f z
    unfolding start_file_of start_of start_at
    good_records l e = rw (eq-eqb (source_of f).number 1 ray, e)

  accepted : (start_file_of f z).answer.number ≡ 1 → ((source_of f).number ≡ 1) × (start_file_of f z ≡ start_behind f z)
  unfolding refused_answer
  accepted h = by _ refl (recipe_of (behind_ray f)) refl
    where
      number : Reply → ℕ
      number r = r.answer.number

      by : (t : Bool) → eqb (source_of f).number 1 ≡ t → (r : Scan) → recipe_of (behind_ray f) ≡ r
          → ((source_of f).number ≡ 1) × (start_file_of f z ≡ start_behind f z)
      by false t r e = let q = ap number (without_ray (eqb-false _ _ t)) in absurd (omega arith)
      by true t (refused n p) e =
          let sound = rw e at (scan_sound true (behind_ray f) most_records 0) in
          let same = ap number (bad_record (eqb-true _ _ t) n p e) in
          absurd (not_1 sound (sym same ∙ h))
      by true t (items l) e = let s = eqb-true _ _ t in (s, good_records s l e)

pub file : File
file =
    record {
      accepted = accepted;
      without_ray = without_ray;
      bad_record = λ f z n p s e. bad_record f z s n p e;
      good_records = λ f z l s e. good_records f z s l e;
    }

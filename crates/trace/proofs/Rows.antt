-- The records of an unbroken trace by their surfaces' numbers: where they stand in a buffer, that none depends on the
-- surfaces behind it, and which are blank. Assumes nothing.
use Rattle.std.specs.Prelude.{if◌then◌else◌}
use Prim.Native.Nat.{ℕ, zero, suc, ◌+◌, ◌-◌, ◌*◌, ◌≤◌, ◌<◌}
use mathlib.Core.Path.{◌≡◌, refl, sym, ◌∙◌, ap}
use mathlib.Core.List.{List, [], ◌∷◌}
use mathlib.Core.Bool.{Bool, true, false}
use native.Mathlib.Omega.{arith}
use native.Mathlib.Nat.{not-suc-le-zero, sub-zero}
use lib.ListN.{length, take}
use lib.Seq.{take_at, drop-append-add}
use lib.Ieee.{Float}
use Rattle.numbers.specs.Arithmetic.{0f}
use Rattle.numbers.proofs.Choice.{either, through}
use Rattle.surfaces.specs.Refusal.{Ended, Told, done}
use Rattle.surfaces.specs.Surface.{surface_end}
use Rattle.recipe.specs.Scan.{Item}
use Rattle.trace.specs.declared.leg.Beam.{Beam}
use Rattle.trace.specs.declared.leg.Leg.{Leg}
use Rattle.trace.specs.Leg.{leg_of, beam_after, row_of, width}
use Rattle.trace.specs.Unbroken.{Mark, Trace, unbroken, rows, padded}
use Rattle.trace.specs.Run.{optics_of}
use Rattle.trace.specs.Wanted.{no_row, row_at}
use Rattle.trace.specs.OneSurface.{record_in}
use Rattle.trace.proofs.Lists.{take_replicate, drop_replicate}
use Rattle.trace.proofs.Closed.{row_width, padded_more}

-- all have one width
abbrev Wide : List Mark → Type 0
Wide [] = Unit {0}
Wide (m ∷ l) = (length m.row ≡ width) × Wide l

pub wide : (k : ℕ) (l : List Item) (b : Beam) → Wide (unbroken k (optics_of l) b).marks
unfolding unbroken
wide k [] b = tt
wide k (i ∷ l) b =
    let e = surface_end i.optic.surface b.ray in
    let x = leg_of k i.optic b e.answer in
    either (λ (u : Trace). Wide u.marks) (done x) _ _
    (row_width x e.passes, wide (k + 1) l (beam_after i.optic b x.value)) (row_width x e.passes, tt)

-- and so stand where their numbers say
pub record_there : (l : List Mark) → Wide l → (k size : ℕ) → width * k + width ≤ size
    → record_in (padded size (rows l)) k ≡ row_at l k
unfolding padded rows
record_there [] w k size h =
    rw (sub-zero size, drop_replicate (width * k) size 0f) (take_replicate width (size - width * k) 0f (omega arith))
record_there (m ∷ l) w zero size h =
    ap (λ (z : List Float). take width z) (sym (padded_more m.row (rows l) size w.0))
    ∙ take_at m.row (padded (size - width) (rows l)) width w.0
record_there (m ∷ l) w (suc k) size h =
    let at : width * suc k ≡ length m.row + width * k = omega (arith, w.0) in
    ap (λ (z : List Float). record_in z (suc k)) (sym (padded_more m.row (rows l) size w.0))
    ∙ rw (at, drop-append-add m.row (padded (size - width) (rows l)) (width * k))
    (record_there l w.1 k (size - width) (omega arith))

-- a surface's record is the first of those from it on
module _ (n : ℕ) (i : Item) (l : List Item) (b : Beam) where
  abbrev end : Ended
  end = surface_end i.optic.surface b.ray

  abbrev x : Told Leg
  x = leg_of n i.optic b end.answer

  abbrev later : Trace
  later = unbroken (n + 1) (optics_of l) (beam_after i.optic b x.value)

  row_first : row_at (unbroken n (optics_of (i ∷ l)) b).marks 0 ≡ row_of x end.passes
  unfolding unbroken
  row_first = either (λ (u : Trace). row_at u.marks 0 ≡ row_of x end.passes) (done x) _ _ refl refl

  row_later : (k : ℕ)
      → row_at (unbroken n (optics_of (i ∷ l)) b).marks (suc k) ≡ (if done x then row_at later.marks k else no_row)
  unfolding unbroken
  row_later k = through (λ (u : Trace). row_at u.marks (suc k)) (done x) _ _

  hits_here : (unbroken n (optics_of (i ∷ l)) b).hits ≡ (if done x then suc later.hits else 0)
  unfolding unbroken
  hits_here = through (λ (u : Trace). u.hits) (done x) _ _

-- and those behind it are of no matter
pub same_row : (n : ℕ) (l : List Item) (b : Beam) (k : ℕ)
    → row_at (unbroken n (optics_of (take (suc k) l)) b).marks k ≡ row_at (unbroken n (optics_of l) b).marks k
same_row n [] b k = refl
same_row n (i ∷ l) b zero = row_first n i [] b ∙ sym (row_first n i l b)
same_row n (i ∷ l) b (suc k) =
    row_later n i (take (suc k) l) b k
    ∙ ap (λ (r : List Float). if done (x n i l b) then r else no_row) (same_row (n + 1) l _ k)
    ∙ sym (row_later n i l b k)

-- behind the surface where the beam ended all are blank
pub blank_behind : (n : ℕ) (l : List Item) (b : Beam) (k : ℕ) → (unbroken n (optics_of l) b).hits < k
    → row_at (unbroken n (optics_of l) b).marks k ≡ no_row
unfolding unbroken
blank_behind n [] b k h = refl
blank_behind n (i ∷ l) b zero h = absurd (not-suc-le-zero h)
blank_behind n (i ∷ l) b (suc k) h =
    row_later n i l b k ∙ by (done (x n i l b)) (hits_here n i l b) (blank_behind (n + 1) l _ k)
  where
    by : (d : Bool) → (unbroken n (optics_of (i ∷ l)) b).hits ≡ (if d then suc (later n i l b).hits else 0)
        → ((later n i l b).hits < k → row_at (later n i l b).marks k ≡ no_row)
        → (if d then row_at (later n i l b).marks k else no_row) ≡ no_row
    by true e rest = rest (omega (arith, e, h))
    by false e rest = refl

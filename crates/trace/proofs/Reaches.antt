-- The ways out of a question for one surface, each at what its promise says. Assumes nothing.
use Prim.Native.Nat.{ℕ, suc, ◌+◌, ◌*◌, ◌≤◌, ◌<◌}
use mathlib.Core.Path.{◌≡◌, refl, sym, ◌∙◌, ap}
use mathlib.Core.Logic.{◌≢◌}
use mathlib.Core.List.{List, ◌++◌}
use mathlib.Core.Bool.{Bool, true, false}
use native.Mathlib.Omega.{arith}
use native.Mathlib.Numerals.{add-one}
use lib.ListN.{length, take, length-replicate, replicate-append-replicate, length-append}
use lib.Seq.{take_all}
use lib.Dec.{leb}
use lib.Ieee.{Float}
use borrow.Author.Tests.{ne_eqb, lt-ltb, le-leb, lt-leb}
use Rattle.numbers.specs.Arithmetic.{0f}
use Rattle.surfaces.specs.declared.types.Ray.{Ray}
use Rattle.recipe.specs.Scan.{Verdict}
use Rattle.recipe.specs.Scan.{Item, Scan, items, items_in, scan, check_of, nothing}
use Rattle.recipe.proofs.Scans.{scan_sound, scan_few}
use Rattle.recipe.proofs.Notes.{notes_end}
use Rattle.recipe.proofs.Chain.{chain_scan}
use Rattle.recipe.proofs.Cuts.{end_from, end_last, cut_chain, cut_within}
use Rattle.trace.specs.declared.state.State.{State}
use Rattle.trace.specs.Wanted.{Reached}
use Rattle.trace.specs.Leg.{width}
use Rattle.trace.specs.Unbroken.{unbroken}
use Rattle.trace.specs.State.{Held, held, standing, advance}
use Rattle.trace.specs.Run.{most_records, recipe_of, items_of, optics_of, blank, beam_of, first_state}
use Rattle.trace.specs.Run.{ray_admission}
use Rattle.trace.specs.Wanted.{no_row, refused_reach, row_at, up_to, reach_on, reach_of}
use Rattle.trace.specs.Parts.{Ready, blanks, lent_from}
use Rattle.trace.specs.OneSurface.{record_in, cut}
use Rattle.trace.proofs.Starts.{Finding, found, found_bad, found_good, found_items, Admitted, ray_good}
use Rattle.trace.proofs.Wholes.{first_ready, ended_buffer}
use Rattle.trace.proofs.Rows.{wide, record_there}

-- the first surfaces of a recipe, and what is left of it where it is cut behind them
abbrev pub front : List ℕ → List Item → List ℕ
front b l = take (end_from 0 l) b

-- The records up to k, if there are so many, are all of the recipe cut after them.
module _ (b : List ℕ) (k : ℕ) (l : List Item) (e : up_to b k ≡ items l) (n : length l ≡ suc k) where
  pub cut_is : cut b k ≡ front b l
  unfolding cut
  cut_is = rw (e, lt-ltb k (length l) (omega arith), end_last 0 l k n)

  pub cut_scanned : (all : Bool) (left : ℕ) → suc k ≤ left → scan all (front b l) left 0 ≡ items l
  cut_scanned all left h = chain_scan all (front b l) left (cut_chain b false (suc k) l e) (omega arith)

-- no more are looked at than are asked for
pub low_counted : (b : List ℕ) (k : ℕ) {l : List Item} → up_to b k ≡ items l → k < length l → length l ≡ suc k
low_counted b k e h = let few = scan_few false b (suc k) 0 in omega (arith, rw e at few)

-- a start of the cut recipe is accepted, and a walk of it keeps surface k's record alone
module _ (b : List ℕ) (ray : Ray) (index : Float) (k : ℕ) (low : k < most_records) (l : List Item)
    (e : up_to b k ≡ items l) (n : length l ≡ suc k) (r : ray_admission ray index ≡ 1) where
  abbrev y : List ℕ
  y = front b l

  good : recipe_of y ≡ items l
  good = cut_scanned b k l e n true most_records (omega arith)

  pub all_items : items_of y ≡ l
  all_items = ap items_in good

  pub admitted : (z : List Float) → width * suc k ≤ length z → Admitted (recipe_of y) ray index z
  admitted z room =
      record {
        good = good ∙ ap items (sym all_items);
        beam = ray_good ray index r;
        room = rw (all_items, n) room;
      }

  abbrev first : State
  first = standing 0 0 (beam_of ray index) 0 0

  abbrev z : List Float
  z = blanks k ++ no_row

  long : length z ≡ width * k + width
  long = length-append (blanks k) no_row ∙ rw (length-replicate (width * k) 0f)

  all_blank : blank z ≡ z
  all_blank = rw long (sym (replicate-append-replicate (width * k) width 0f))

  starts : Admitted (recipe_of y) ray index (blank z)
  starts = admitted (blank z) (rw (all_blank, long) (omega arith))

  first_is : first_state (length (items_of y)) (beam_of ray index) ≡ first
  first_is = rw (all_items, n, ne_eqb 0 (suc k) (λ q. omega arith))

  begins : Ready y (width * k + width) (suc k) first
  begins = rw (first_is, all_items, n, all_blank, long) at (first_ready y ray index z starts)

  ends : (s : State) (v : List Float) → length v ≡ width
      → held s v ≡ lent_from k (advance (items_of y) 65535 (held first z))
      → v ≡ row_at (unbroken 0 (optics_of l) (beam_of ray index)).marks k
  ends s v wide-v q =
      let buffer = rw (first_is, all_blank) at (ended_buffer y ray index z starts) in
      sym (take_all width v (omega arith))
      ∙ ap (λ (h : Held). take width h.buffer) q
      ∙ ap (λ (w : List Float). record_in w k) buffer
      ∙ rw (all_items, long)
      (record_there _ (wide 0 l (beam_of ray index)) k (width * k + width) (omega arith))

-- the answer, by what a check of the records up to k says
module _ (b : List ℕ) (ray : Ray) (index : Float) (k : ℕ) (low : k < most_records)
    (c : Verdict) (checked : c ≡ check_of b (k + 1) false k) where
  abbrev upto : List Item
  upto = items_in (up_to b k)

  finds : Finding k c (up_to b k)
  unfolding check_of
  finds = found k c (up_to b k) (scan_sound false b (suc k) 0) (rw (add-one k) at checked)

  -- by what the check says of the records
  past : {s : Scan} → up_to b k ≡ s → (r : Reached) → r ≡ reach_on s ray index k → r ≡ reach_of b ray index k
  unfolding reach_of
  past says r e = rw (lt-leb most_records k low, says) e

  pub reach_bad : c.number ≢ 1 → refused_reach c.number c.place ≡ reach_of b ray index k
  reach_bad h = past (found_bad (up_to b k) finds h) _ refl

  module _ (h : c.number ≡ 1) where
    scanned : up_to b k ≡ items upto
    scanned = found_good (up_to b k) finds h

    counted : c.count ≡ length upto
    counted = (found_items (up_to b k) finds scanned).1

    stopped : c.end ≡ end_from 0 upto
    stopped = ap (λ (d : Verdict). d.end) (found_items (up_to b k) finds scanned).0 ∙ notes_end k nothing upto

    pub reach_short : c.count ≤ k → refused_reach 2 0 ≡ reach_of b ray index k
    reach_short i = past scanned _ (rw (le-leb (length upto) k (omega (arith, counted))))

    module _ (i : k < c.count) where
      there : leb (length upto) k ≡ false
      there = lt-leb (length upto) k (omega (arith, counted))

      pub reach_ray : {n : ℕ} → n ≡ ray_admission ray index → n ≢ 1 → refused_reach n 0 ≡ reach_of b ray index k
      reach_ray {n} e g = past scanned _ (rw (there, ← e, ne_eqb n 1 g))

-- all that is asked before the walk
pub record Asked (b : List ℕ) (ray : Ray) (index : Float) (k : ℕ) (c : Verdict) : Type 0 where
  pub low : k < most_records
  pub checked : c ≡ check_of b (k + 1) false k
  pub good : c.number ≡ 1
  pub there : k < c.count
  pub beam : ray_admission ray index ≡ 1

module _ {b : List ℕ} {ray : Ray} {index : Float} {k : ℕ} {c : Verdict} (a : Asked b ray index k c) where
  abbrev l : List Item
  l = upto b ray index k a.low c a.checked

  is_scanned : up_to b k ≡ items l
  is_scanned = scanned b ray index k a.low c a.checked a.good

  is_counted : c.count ≡ length l
  is_counted = counted b ray index k a.low c a.checked a.good

  ends_there : c.end ≡ end_from 0 l
  ends_there = stopped b ray index k a.low c a.checked a.good

  exactly : length l ≡ suc k
  exactly = low_counted b k is_scanned (omega (arith, is_counted, a.there))

  pub cut_inside : c.end ≤ length b
  cut_inside = omega (arith, ends_there, cut_within b false (suc k) l is_scanned)

  pub walk_ready : Ready (take c.end b) (width * k + width) c.count (standing 0 0 (beam_of ray index) 0 0)
  walk_ready =
      rw (is_counted, ends_there, exactly) (begins b ray index k a.low l is_scanned exactly a.beam)

  pub reach_done : (s : State) (v : List Float) → length v ≡ width
      → held s v ≡ lent_from k
      (advance (items_of (take c.end b)) 65535 (held (standing 0 0 (beam_of ray index) 0 0) (blanks k ++ no_row)))
      → record { number = 1; place = 0; row = v } ≡ reach_of b ray index k
  reach_done s v w q =
      let row = ends b ray index k a.low l is_scanned exactly a.beam s v w (rw ends_there at q) in
      past b ray index k a.low c a.checked is_scanned _
      (rw (there b ray index k a.low c a.checked a.good a.there, a.beam, row))

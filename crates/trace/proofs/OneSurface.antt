-- One surface's record beside the full trace, and beside the cut recipe. Assumes nothing.
use Rattle.std.specs.Prelude.{if◌then◌else◌}
use Prim.Native.Nat.{ℕ, suc, ◌*◌, ◌≤◌, ◌<◌}
use mathlib.Core.Path.{◌≡◌, refl, sym, ◌∙◌, ap}
use mathlib.Core.List.{List}
use mathlib.Core.Bool.{Bool, true, false}
use native.Mathlib.Omega.{arith}
use lib.ListN.{length, take, length-replicate}
use lib.Seq.{length-take-le}
use lib.Dec.{eqb, ltb, leb}
use lib.Ieee.{Float}
use borrow.Author.Tests.{ltb-true, lt-leb, leb-false, eqb-true, eqb-false}
use Rattle.numbers.specs.Arithmetic.{0f}
use Rattle.surfaces.specs.declared.types.Ray.{Ray}
use Rattle.recipe.specs.Scan.{Item, Scan, refused, items}
use Rattle.recipe.proofs.Records.{not_1}
use Rattle.recipe.proofs.Scans.{scan_sound, scan_few}
use Rattle.recipe.proofs.Cuts.{scan_first}
use Rattle.trace.specs.Wanted.{Reached}
use Rattle.trace.specs.Leg.{width}
use Rattle.trace.specs.Unbroken.{Trace, unbroken}
use Rattle.trace.specs.Run.{most_records, Reply, reply, recipe_of, items_of, optics_of, blank, beam_of, first_state}
use Rattle.trace.specs.Run.{ray_admission, start_at, start_of, whole_of}
use Rattle.trace.specs.Wanted.{refused_reach, row_at, up_to, reach_on, reach_of}
use Rattle.trace.specs.OneSurface.{cut_on, cut, InFull, OneSurface}
use Rattle.trace.proofs.Starts.{Admitted, admitted_is, good_ray}
use Rattle.trace.proofs.Demand3.{admitted_start}
use Rattle.trace.proofs.Rows.{wide, record_there, same_row, blank_behind}
use Rattle.trace.proofs.Reaches.{front, cut_is, cut_scanned, low_counted, admitted, all_items}

-- beside the full trace
module _ (b : List ℕ) (ray : Ray) (index : Float) (z : List Float) (k : ℕ)
    (accepted : (start_of b ray index z).answer.number ≡ 1) (low : k < length (items_of b)) where
  start : Admitted (recipe_of b) ray index (blank z)
  start = admitted_start b ray index z accepted

  abbrev u : Trace
  u = unbroken 0 (optics_of (items_of b)) (beam_of ray index)

  answered : reach_of b ray index k ≡ record { number = 1; place = 0; row = row_at u.marks k }
  unfolding reach_of
  answered =
      let few = scan_few true b most_records 0 in
      let taken = length-take-le (suc k) (items_of b) low in
      rw (
        lt-leb most_records k (omega arith),
        scan_first b most_records (suc k) (items_of b) start.good,
        lt-leb (length (take (suc k) (items_of b))) k (omega arith),
        good_ray ray index start.beam,
        same_row 0 (items_of b) (beam_of ray index) k,
      )

  in_full : InFull b ray index z k
  unfolding whole_of
  in_full =
      let room = start.room in
      let there =
      record_there u.marks (wide 0 (items_of b) (beam_of ray index)) k (length (blank z)) (omega arith) in
      record {
        answer = answered ∙ rw (admitted_is 0 ray index (blank z) (recipe_of b) start _, there);
        ended = λ h.
            ap (λ (r : Reached). r.row) answered
            ∙ blank_behind 0 (items_of b) (beam_of ray index) k
            (rw (admitted_is 0 ray index (blank z) (recipe_of b) start _) at h);
      }

-- beside the cut recipe
cut_alike : (b : List ℕ) (k : ℕ) → up_to (cut b k) k ≡ up_to b k
unfolding cut
cut_alike b k = by (up_to b k) refl
  where
    by : (s : Scan) → up_to b k ≡ s → up_to (cut b k) k ≡ up_to b k
    by (refused n p) e = ap (λ (s : Scan). up_to (cut_on s b k) k) e
    by (items l) e = or (ltb k (length l)) refl
      where
        or : (t : Bool) → ltb k (length l) ≡ t → up_to (cut b k) k ≡ up_to b k
        or true t =
            let n = low_counted b k e (ltb-true k (length l) t) in
            rw (cut_is b k l e n) (cut_scanned b k l e n false (suc k) (omega arith)) ∙ sym e
        or false t = ap (λ (s : Scan). up_to (cut_on s b k) k) e ∙ rw t

-- what a record that is answered says
record Granted (b : List ℕ) (ray : Ray) (index : Float) (k : ℕ) : Type 0 where
  low : k < most_records
  surfaces : List Item
  scanned : up_to b k ≡ items surfaces
  counted : length surfaces ≡ suc k
  beam : ray_admission ray index ≡ 1

granted : (b : List ℕ) (ray : Ray) (index : Float) (k : ℕ) → (reach_of b ray index k).number ≡ 1 → Granted b ray index k
unfolding reach_of
granted b ray index k h = by (leb most_records k) refl (up_to b k) refl h
  where
    on : k < most_records → (l : List Item) → up_to b k ≡ items l → (t : Bool) → leb (length l) k ≡ t
        → (u : Bool) → eqb (ray_admission ray index) 1 ≡ u
        → (if t then refused_reach 2 0 else if u then
        record { number = 1; place = 0; row = row_at (unbroken 0 (optics_of l) (beam_of ray index)).marks k } else
        refused_reach (ray_admission ray index) 0).number ≡ 1
        → Granted b ray index k
    on low l e true t u v h = absurd (omega (arith, h))
    on low l e false t false v h = absurd (eqb-false _ _ v h)
    on low l e false t true v h =
        record {
          low = low;
          surfaces = l;
          scanned = e;
          counted = low_counted b k e (leb-false (length l) k t);
          beam = eqb-true _ _ v;
        }

    by : (t : Bool) → leb most_records k ≡ t → (s : Scan) → up_to b k ≡ s
        → (if t then refused_reach 2 0 else reach_on s ray index k).number ≡ 1 → Granted b ray index k
    by true t s e h = absurd (omega (arith, h))
    by false t (refused n p) e h = absurd (not_1 (rw e at (scan_sound false b (suc k) 0)) h)
    by false t (items l) e h =
        on (leb-false most_records k t) l e (leb (length l) k) refl (eqb (ray_admission ray index) 1) refl h

cut_passes : (b : List ℕ) (ray : Ray) (index : Float) (z : List Float) (k : ℕ) → Granted b ray index k
    → width * suc k ≤ length z
    → ((start_of (cut b k) ray index z).answer.number ≡ 1) × (length (items_of (cut b k)) ≡ suc k)
unfolding start_of start_at
cut_passes b ray index z k g room =
    let l = g.surfaces in
    let fits : width * suc k ≤ length (blank z) = rw (length-replicate (length z) 0f) room in
    let a = admitted b ray index k g.low l g.scanned g.counted g.beam (blank z) fits in
    let accept : List Item → Reply = λ l. reply 1 0 (first_state (length l) (beam_of ray index)) (blank z) in
    rw (cut_is b k l g.scanned g.counted) (
      ap (λ (r : Reply). r.answer.number) (admitted_is 0 ray index (blank z) (recipe_of (front b l)) a accept),
      ap length (all_items b ray index k g.low l g.scanned g.counted g.beam) ∙ g.counted,
    )

pub one_surface : OneSurface
unfolding reach_of
one_surface =
    record {
      in_full = in_full;
      by_cut = λ b ray index k. rw (cut_alike b k);
      cut_passes = λ b ray index z k h. cut_passes b ray index z k (granted b ray index k h);
    }

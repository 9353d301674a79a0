-- A state that fits comes back from the arrays as it went in; counts beyond its types fit no recipe. Assumes nothing.
use Prim.Native.Nat.{ℕ, ◌+◌, ◌*◌, ◌≤◌, ◌<◌}
use mathlib.Core.Path.{◌≡◌, refl, sym, ◌∙◌, ap}
use mathlib.Core.Logic.{◌⊎◌, inl, inr}
use mathlib.Core.List.{List, [], ◌∷◌}
use mathlib.Core.Bool.{Bool, true, false}
use native.Mathlib.Omega.{arith}
use lib.ListN.{length, get_or}
use lib.Dec.{ltb, leb}
use lib.Ieee.{Float}
use borrow.Author.Tests.{ne_eqb, lt-ltb, le-ltb, leb-true}
use Rattle.surfaces.specs.Types.{ray_of}
use Rattle.surfaces.specs.Refusal.{stops}
use Rattle.surfaces.specs.declared.types.Ray.{Ray}
use Rattle.surfaces.proofs.Chains.{limit_bounds}
use Rattle.numbers.proofs.Lists.{each}
use Rattle.recipe.specs.Scan.{Item, Scan, refused, items, notes, nothing, item_at}
use Rattle.recipe.proofs.Records.{not_1}
use Rattle.recipe.proofs.Scans.{Sound, scan_sound}
use Rattle.trace.specs.declared.state.State.{State}
use Rattle.trace.specs.Leg.{width}
use Rattle.trace.specs.State.{Held, held, advance, fits_of}
use Rattle.trace.specs.Run.{most_records, Reply, recipe_of, items_of, blank, beam_of, first_state, accept, start_of}
use Rattle.trace.specs.Run.{continue_on, continue_of}
use Rattle.trace.specs.Parts.{Stands, walking, arrived, stopped}
use Rattle.trace.specs.Demand3.{calls, Accepted, called}
use Rattle.trace.proofs.Fits.{fits_fit}
use Rattle.trace.proofs.Unfits.{outcomes, stops_listed}
use Rattle.trace.proofs.Starts.{Admitted}
use Rattle.trace.proofs.Demand3.{sound, call, admitted_start, started}
use Rattle.station.specs.Lent.{passes_in, outcome_in, state_in, counts_of, numbers_of, Left, left, told}
use Rattle.station.specs.Lent.{told_if_accepted, continued}
use Rattle.station.specs.Carried.{scans, Beyond, unfit, Carried}

-- named so that the worked cases are checked first

at_most_9 : (n : ℕ) → stops n ≡ true → n ≤ 9
at_most_9 n h = leb-true n 9 (each (λ (k : ℕ). leb k 9) outcomes n refl (stops_listed n h))

-- what stands on a recipe has small counts
small : (l : List Item) (s : State) → Stands l s → (s.passes < 35) × (s.outcome ≤ 9)
small l s (walking o n p) =
    (omega (arith, p, (limit_bounds (item_at l s.number).optic.surface.kind).1), omega (arith, o))
small l s (arrived o n p) = (omega (arith, p), omega (arith, o))
small l s (stopped o n p) = (omega (arith, p), at_most_9 s.outcome o)

read_back : (s : State) → (s.passes < 35) × (s.outcome ≤ 9) → state_in (counts_of s) (numbers_of s) ≡ s
unfolding state_in counts_of numbers_of passes_in outcome_in ray_of
read_back s h = rw (lt-ltb s.passes 65536 (omega (arith, h.0)), lt-ltb s.outcome 256 (omega (arith, h.1)))

-- an accepted start's scans
module _ (b : List ℕ) (ray : Ray) (index : Float) (z : List Float)
    (a : Admitted (recipe_of b) ray index (blank z)) where
  abbrev at : ℕ → Held
  at n = advance (items_of b) n (held (first_state (length (items_of b)) (beam_of ray index)) (blank z))

  scan : (n k : ℕ) →
      let s = (at n).state in
      continued b (counts_of s) (numbers_of s) (at n).buffer k ≡ told (accept (at (n + k)))
  unfolding continued
  scan n k =
      let s = (at n).state in
      rw (read_back s (small (items_of b) s (sound b ray index z a n).fit.stands), call b ray index z a n k)

  row : (ks : List ℕ) (n : ℕ) → scans b ks (told (accept (at n))) ≡ told (calls b ks (accept (at n)))
  unfolding scans calls
  row [] n = refl
  row (k ∷ ks) n =
      ap (λ (w : Left). scans b ks w) (scan n k)
      ∙ row ks (n + k)
      ∙ ap (λ (r : Reply). told (calls b ks r)) (sym (call b ray index z a n k))

carries : (b : List ℕ) (ray : Ray) (index : Float) (z : List Float) (ks : List ℕ) → Accepted b ray index z
    → scans b ks (told (start_of b ray index z)) ≡ told (called b ray index z ks)
unfolding advance
carries b ray index z ks h = rw (started b ray index z h) (row b ray index z (admitted_start b ray index z h) ks 0)

module _ (c : List ℕ) (x z : List Float) (allowed : ℕ) (h : Beyond c) where
  abbrev s : State
  s = state_in c x

  large : (35 ≤ s.passes) ⊎ (10 ≤ s.outcome)
  unfolding state_in passes_in outcome_in
  large = by h
    where
      by : Beyond c → (35 ≤ passes_in (get_or c 2 0)) ⊎ (10 ≤ outcome_in (get_or c 4 0))
      by (inl p) = inl (rw (le-ltb (get_or c 2 0) 65536 p) (omega arith))
      by (inr p) = inr (rw (le-ltb (get_or c 4 0) 256 p) (omega arith))

  never_fits : (l : List Item) (end : ℕ) (t : Bool) → fits_of (notes s.number nothing l) end s ≡ t → t ≡ false
  never_fits l end false e = refl
  never_fits l end true e = absurd (too_large large (small l s (fits_fit l end s e).stands))
    where
      too_large : (35 ≤ s.passes) ⊎ (10 ≤ s.outcome) → (s.passes < 35) × (s.outcome ≤ 9) → ⊥
      too_large (inl p) q = omega (arith, p, q.0)
      too_large (inr p) q = omega (arith, p, q.1)

  -- nothing is written, and the verdict says why
  abbrev Refuses : Scan → ℕ → Type 0
  Refuses r end = told_if_accepted c x (continue_on r end s z allowed) ≡ left (unfit r (length z)) c x z

  refuses_on : (r : Scan) → Sound r → (end : ℕ) → Refuses r end
  refuses_on (refused n p) good end = rw (ne_eqb n 1 (not_1 good))
  refuses_on (items l) good end = by (ltb (length z) (width * length l)) refl
    where
      by : (t : Bool) → ltb (length z) (width * length l) ≡ t → Refuses (items l) end
      by true e = rw e
      by false e = rw (e, never_fits l end _ refl)

refuses : (b c : List ℕ) (x z : List Float) (allowed : ℕ) → Beyond c
    → continued b c x z allowed ≡ left (unfit (recipe_of b) (length z)) c x z
unfolding continued continue_of
refuses b c x z allowed h = refuses_on c x z allowed h (recipe_of b) (scan_sound true b most_records 0) (length b)

pub carried : Carried
carried = record { carries = carries; refuses = refuses }

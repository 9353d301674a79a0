-- A start and all steps at once leave what the unbroken trace does. Assumes nothing.
use Prim.Native.Nat.{ℕ, ◌+◌, ◌*◌, ◌≤◌, ◌<◌, ◌^◌}
use mathlib.Core.Path.{◌≡◌, refl, sym, ◌∙◌, ap}
use mathlib.Core.Logic.{◌≢◌}
use mathlib.Core.Bool.{true}
use mathlib.Core.List.{List}
use native.Mathlib.Omega.{arith}
use native.Mathlib.Nat.{zero-add}
use lib.ListN.{length, length-replicate}
use lib.Ieee.{Float}
use Rattle.numbers.specs.Arithmetic.{0f}
use Rattle.surfaces.specs.declared.types.Ray.{Ray}
use Rattle.recipe.specs.Scan.{Verdict}
use Rattle.recipe.specs.Scan.{check_of, place_of}
use Rattle.recipe.proofs.Scans.{scan_sound}
use Rattle.trace.specs.declared.state.State.{State}
use Rattle.trace.specs.Run.{Answer}
use Rattle.trace.specs.Leg.{width}
use Rattle.trace.specs.Unbroken.{Trace, Mark, unbroken, total, rows, padded}
use Rattle.trace.specs.State.{Held, held, standing, advance}
use Rattle.trace.specs.Run.{most_records, Reply, recipe_of, items_of, optics_of, blank, beam_of, first_state, accept}
use Rattle.trace.specs.Run.{begun_of, start_at, whole_of}
use Rattle.trace.specs.Parts.{Ready}
use Rattle.trace.proofs.Standing.{total_limit, finished_all, at_end}
use Rattle.trace.proofs.Starts.{finding, found_items, start_is, Admitted, admitted_by, admitted_is}
use Rattle.trace.proofs.Starts.{refused_alike, limits_few}
use Rattle.trace.proofs.Demand3.{shown, sound}

-- all steps from an accepted start
module _ (y : List ℕ) (ray : Ray) (index : Float) (z : List Float)
    (a : Admitted (recipe_of y) ray index (blank z)) where
  abbrev first : State
  first = first_state (length (items_of y)) (beam_of ray index)

  abbrev u : Trace
  u = unbroken 0 (optics_of (items_of y)) (beam_of ray index)

  abbrev ended : Held
  ended = advance (items_of y) 65535 (held first (blank z))

  pub first_ready : Ready y (length (blank z)) (length (items_of y)) first
  unfolding advance
  first_ready =
      record { good = a.good; counted = refl; fits = a.room; fit = (sound y ray index z a 0).fit }

  enough : total u.marks ≤ 65535
  enough = omega (arith, total_limit 0 (items_of y) (beam_of ray index), limits_few y)

  ended_state : ended.state
      ≡ standing u.hits (place_of (items_of y) (length y) u.hits) u.beam (total u.marks) u.outcome
  ended_state =
      (shown y ray index z a 65535).state ∙ at_end (items_of y) (length y) 0 0 65535 (beam_of ray index) enough
      ∙ rw (zero-add u.hits, zero-add (total u.marks))

  pub ended_buffer : ended.buffer ≡ padded (length z) (rows u.marks)
  ended_buffer =
      (shown y ray index z a 65535).buffer
      ∙ ap (λ (l : List Mark). padded (length z) (rows l)) (finished_all u.marks 65535 enough)

module _ (y : List ℕ) (ray : Ray) (index : Float) (z : List Float)
    (c : Verdict) (checked : c ≡ check_of y most_records true 0)
    (w : List Float) (blanked : w ≡ blank z)
    (a : Answer) (begun : a ≡ begun_of c 0 ray index (length w)) where
  started : record { answer = a; buffer = w } ≡ start_at 0 y ray index z
  started = start_is y c checked 0 ray index z w a blanked begun

  pub whole_refused : a.number ≢ 1 → record { answer = a; buffer = w } ≡ whole_of y ray index z
  unfolding start_at whole_of
  whole_refused h =
      let same = ap (λ (r : Reply). r.answer.number) started in
      started ∙ refused_alike 0 ray index (blank z) (recipe_of y) _ _ (λ l. refl) (λ e. h (same ∙ e))

  module _ (h : a.number ≡ 1) where
    admission : Admitted (recipe_of y) ray index (blank z)
    unfolding start_at
    admission =
        let same = ap (λ (r : Reply). r.answer.number) started in
        admitted_by 0 ray index (blank z) (recipe_of y) (scan_sound true y most_records 0) _ (sym same ∙ h)

    first_is : a.state ≡ first_state (length (items_of y)) (beam_of ray index)
    unfolding start_at
    first_is =
        ap (λ (r : Reply). r.answer.state) (started ∙ admitted_is 0 ray index (blank z) (recipe_of y) admission _)

    pub whole_ready : Ready y (width * 0 + length w) c.count a.state × (a.state.steps < 2 ^ 62)
    whole_ready =
        let k = (found_items (recipe_of y) (finding y 0 c checked) admission.good).1 in (
          rw (zero-add (length w), first_is, blanked, k) (first_ready y ray index z admission),
          rw first_is (omega arith),
        )

    pub whole_done : (g : Held) → g ≡ advance (items_of y) 65535 (held a.state w) → accept g ≡ whole_of y ray index z
    unfolding whole_of
    whole_done g e =
        rw (
          e,
          first_is,
          blanked,
          ended_state y ray index z admission,
          ended_buffer y ray index z admission,
          length-replicate (length z) 0f,
        )
        (sym (rw (admitted_is 0 ray index (blank z) (recipe_of y) admission _)))

-- A walk over surfaces with the passes inside: what it relies on, and that it goes as far as it is allowed to. Assumes
-- nothing.
use Rattle.std.specs.Prelude.{if◌then◌else◌, Option, Some, None, IsSome}
use Prim.Native.Nat.{ℕ, zero, suc, ◌+◌, ◌-◌, ◌*◌, ◌≤◌, ◌<◌, zero-le}
use mathlib.Core.Path.{◌≡◌, refl, sym, ◌∙◌, ap, subst}
use mathlib.Core.List.{List}
use mathlib.Core.Bool.{Bool, true, false, false≢true}
use native.Mathlib.Omega.{arith}
use native.Mathlib.Numerals.{add-one}
use lib.ListN.{length}
use lib.Ieee.{Float}
use Rattle.surfaces.specs.Refusal.{Told, Ended, ended, again}
use Rattle.surfaces.specs.Newton.{going}
use Rattle.surfaces.specs.Surface.{pass_answer, chain_by, chain}
use Rattle.surfaces.specs.declared.types.Landing.{Landing}
use Rattle.surfaces.proofs.Chains.{limit_bounds}
use Rattle.recipe.specs.declared.record.ReadRecord.{ReadRecord}
use Rattle.recipe.specs.Record.{ReadRow, no_row, told_record, read_at}
use Rattle.recipe.specs.Scan.{Item, items, item_at, place_of}
use Rattle.recipe.proofs.Records.{good_read}
use Rattle.recipe.proofs.Chain.{Chain, record_there}
use Rattle.recipe.proofs.Cuts.{scan_chain}
use Rattle.trace.specs.declared.state.State.{State}
use Rattle.trace.specs.Leg.{width}
use Rattle.trace.specs.State.{Held, held, paused_at, state_after, surface_left, step_on, move, advance}
use Rattle.trace.specs.Run.{most_records, recipe_of, items_of}
use Rattle.trace.specs.Parts.{Stands, walking, arrived, stopped, Fit, Ready}
use Rattle.trace.proofs.Steps.{advance_ended}
use Rattle.trace.proofs.Fits.{low, fit_move, steps_move, length_move}

pub chain_of : (b : List ℕ) → recipe_of b ≡ items (items_of b) → Chain b 0 (items_of b)
chain_of b e = scan_chain b most_records 0 (items_of b) zero-le e

abbrev with_outcome : State → ℕ → State
with_outcome s outcome =
    record {
      number = s.number;
      place = s.place;
      passes = s.passes;
      t = s.t;
      beam = s.beam;
      steps = s.steps;
      outcome = outcome;
    }

-- a state that has not ended is in the middle of its surface
paused_is : (s : State) → s.outcome ≡ 0 → paused_at s s.passes s.t s.steps ≡ s
unfolding paused_at
paused_is s e = ap (λ (o : ℕ). with_outcome s o) (sym e)

few_passes : {l : List Item} {s : State} → Stands l s → s.passes < 35
few_passes {l} {s} (walking o n p) = omega (arith, (limit_bounds (item_at l s.number).optic.surface.kind).1)
few_passes (arrived o n p) = omega arith
few_passes (stopped o n p) = omega arith

-- so many passes on from h: at least one, no more than are left, and no more than any kind may take
abbrev pub Bounds : Held → ℕ → ℕ → Type 0
Bounds h left taken = (0 < taken) × (taken ≤ left) × (h.state.passes + taken ≤ 35)

module _ (b : List ℕ) (count : ℕ) where
  abbrev l : List Item
  l = items_of b

  -- The walk's invariant: from h with `left` steps to go is as from h₀ with all that were allowed.
  pub record Runs (allowed : ℕ) (h₀ h : Held) (left : ℕ) : Type 0 where
    pub same : advance l allowed h₀ ≡ advance l left h
    pub ready : Ready b (length h.buffer) count h.state
    pub long : length h.buffer ≡ length h₀.buffer
    pub steps : h.state.steps + left ≡ h₀.state.steps + allowed

  -- So many passes on from h, on its surface, are as so many steps.
  pub record Passing (h : Held) (left₀ made : ℕ) (t : Float) (steps left : ℕ) : Type 0 where
    same : advance l left₀ h ≡ advance l left (held (paused_at h.state made t steps) h.buffer)
    fit : Fit l (length b) (paused_at h.state made t steps)
    some : 0 < left
    within : left ≤ left₀
    even : steps + left ≡ h.state.steps + left₀
    level : made + h.state.steps ≡ h.state.passes + steps

  -- the record of the surface that h stands on, as it is read
  abbrev read_of : Held → ReadRow
  read_of h =
      let i = item_at l h.state.number in record { number = 1; next = i.next; optic = i.optic }

  -- the pass after so many from h, and so many more
  abbrev pass : Held → ℕ → Float → Told Landing
  pass h made t = pass_answer (item_at l h.state.number).optic.surface h.state.beam.ray made t

  abbrev passes : Held → ℕ → ℕ → Float → Ended
  passes h n made t = chain (item_at l h.state.number).optic.surface h.state.beam.ray n made t

  -- How the passes that are allowed end: with another to come, or with the surface.
  pub data Came (h : Held) (left₀ : ℕ) : Ended → Type 0 where
    waits : {made : ℕ} {t : Float} {steps : ℕ} → Passing h left₀ made t steps 1 → going (pass h made t) ≡ true
        → Came h left₀ (ended (again (pass h made t).value.t) (suc made))
    ends : {made : ℕ} {t : Float} {steps left : ℕ} → Passing h left₀ made t steps left → going (pass h made t) ≡ false
        → Came h left₀ (ended (pass h made t) (suc made))

  module _ (good : recipe_of b ≡ items (items_of b)) where
    module _ {h : Held} {left₀ made : ℕ} {t : Float} {steps left : ℕ} (p : Passing h left₀ made t steps left) where
      abbrev now : Held
      now = held (paused_at h.state made t steps) h.buffer

      made_few : made < 35
      unfolding paused_at
      made_few = few_passes p.fit.stands

      started : now.state.outcome ≡ 0
      unfolding paused_at
      started = refl

      -- a step on
      on_by : (g : Held) → move l now ≡ g → advance l left₀ h ≡ advance l (left - 1) g
      unfolding advance
      on_by g e =
          let less : left ≡ suc (left - 1) = omega (arith, p.some) in
          p.same ∙ ap (λ (n : ℕ). advance l n now) less ∙ ap (λ (k : Held). advance l (left - 1) k) e

      goes : going (pass h made t) ≡ true
          → move l now ≡ held (paused_at h.state (made + 1) (pass h made t).value.t (steps + 1)) h.buffer
      unfolding move step_on paused_at
      goes g = rw g

      more : going (pass h made t) ≡ true → 0 < left - 1
          → Passing h left₀ (made + 1) (pass h made t).value.t (steps + 1) (left - 1)
      more g some =
          record {
            same = on_by _ (goes g);
            fit =
                subst (λ (k : Held). Fit l (length b) k.state) (goes g)
                (fit_move b l (chain_of b good) now p.fit started);
            some = some;
            within = omega (arith, p.within);
            even = omega (arith, p.even, p.some);
            level = omega (arith, p.level);
          }

      -- the surface's end, with a record that was read where it stands
      module _ (g : going (pass h made t) ≡ false) (counted : count ≡ length l) {read : ReadRow}
          (i : read ≡ read_of h) (h' : Held)
          (by : h' ≡ surface_left h read.next count read.optic (pass h made t) (made + 1) (steps + 1)) where
        off : move l now ≡ h'
        unfolding move step_on surface_left state_after paused_at
        off = rw (g, by, i, counted)

        after_leave : {allowed : ℕ} {h₀ : Held} → Runs allowed h₀ h left₀ → Runs allowed h₀ h' (left - 1)
        unfolding paused_at
        after_leave r =
            record {
              same = r.same ∙ on_by h' off;
              ready = record {
                good = good;
                counted = counted;
                fits = omega (arith, same_length, r.ready.fits);
                fit =
                    subst (λ (k : Held). Fit l (length b) k.state) off
                    (fit_move b l (chain_of b good) now p.fit started);
              };
              long = same_length ∙ r.long;
              steps = omega (arith, same_steps, r.steps, p.even, p.some);
            }
          where
            same_length : length h'.buffer ≡ length h.buffer
            same_length =
                ap (λ (k : Held). length k.buffer) (sym off)
                ∙ length_move b l (chain_of b good) now p.fit started

            same_steps : h'.state.steps ≡ steps + 1
            same_steps =
                ap (λ (k : Held). k.state.steps) (sym off) ∙ steps_move b l (chain_of b good) now p.fit started

    -- after a pass, by whether it goes on
    turn : {h : Held} {left₀ n made : ℕ} {t : Float} {steps : ℕ} → Passing h left₀ made t steps (suc n) → (g : Bool)
        → going (pass h made t) ≡ g → (g ≡ true → Came h left₀ (passes h n (suc made) (pass h made t).value.t))
        → Came h left₀
        (if g then passes h n (suc made) (pass h made t).value.t else ended (pass h made t) (suc made))
    turn p true e rest = rest refl
    turn p false e rest = ends p e

    comes : {h : Held} {left₀ : ℕ} (n : ℕ) {made : ℕ} {t : Float} {steps : ℕ} → Passing h left₀ made t steps (suc n)
        → Came h left₀ (passes h (suc n) made t)
    unfolding chain_by pass_answer
    comes zero p = turn p _ refl (λ g. waits p g)
    comes (suc n) {made} {t} {steps} p =
        turn p _ refl (λ g.
        let less : suc (suc n) - 1 ≡ suc n = omega arith in
        comes n (rw (add-one made, add-one steps, less) at (more p g (omega arith))))

    module _ {h : Held} {left₀ : ℕ} where
      -- so many passes were taken
      module _ (taken : ℕ) where
        bounds_at : {made : ℕ} {t : Float} {steps left : ℕ} → Passing h left₀ made t steps left
            → suc made ≡ h.state.passes + taken → Bounds h left₀ taken
        bounds_at p k = (
          omega (arith, p.within, p.even, p.level, k),
          omega (arith, p.some, p.even, p.level, k),
          omega (arith, made_few p, k),
        )

        pub bounds : {e : Ended} → Came h left₀ e → e.passes ≡ h.state.passes + taken → Bounds h left₀ taken
        bounds (waits p g) k = bounds_at p k
        bounds (ends p g) k = bounds_at p k

        pub pauses : {e : Ended} → Came h left₀ e → e.passes ≡ h.state.passes + taken → going e.answer ≡ true
            → held (paused_at h.state (h.state.passes + taken) e.answer.value.t (h.state.steps + taken))
            h.buffer
            ≡ advance l left₀ h
        unfolding advance
        pauses (waits {made} {t} {steps} p g) k _ =
            let m : h.state.passes + taken ≡ made + 1 = omega (arith, k) in
            let n : h.state.steps + taken ≡ steps + 1 = omega (arith, p.level, k) in
            rw (m, n) (sym (on_by p _ (goes p g)))
        pauses (ends p g) k w = absurd (false≢true (sym g ∙ w))

        pub leaves : {e : Ended} → Came h left₀ e → e.passes ≡ h.state.passes + taken → going e.answer ≡ false
            → {read : ReadRow} → read ≡ read_of h → (h' : Held)
            → h' ≡ surface_left h read.next count read.optic e.answer (h.state.passes + taken)
            (h.state.steps + taken)
            → {allowed : ℕ} {h₀ : Held} → Runs allowed h₀ h left₀ → Runs allowed h₀ h' (left₀ - taken)
        leaves (waits p g) k w i h' by r = absurd (false≢true (sym w))
        leaves (ends {made} {t} {steps} {left} p g) k w i h' by r =
            let m : h.state.passes + taken ≡ made + 1 = omega (arith, k) in
            let n : h.state.steps + taken ≡ steps + 1 = omega (arith, p.level, k) in
            let d : left₀ - taken ≡ left - 1 = omega (arith, p.some, p.even, p.level, k) in
            rw d (after_leave p g r.ready.counted i h' (rw (m, n) at by) r)

    module _ (h : Held) (left : ℕ) (r : Ready b (length h.buffer) count h.state) (run : h.state.outcome ≡ 0)
        (some : 0 < left) where
      number_low : h.state.number < length l
      number_low = low b l (chain_of b good) h r.fit run

      pub read_is : (read : ReadRow) → read ≡ read_at b h.state.place → read ≡ read_of h
      read_is read e =
          let there = record_there b (chain_of b good) h.state.number number_low in
          e ∙ ap (λ (p : ℕ). read_at b p) r.fit.place
          ∙ good_read b (place_of l (length b) h.state.number) there

      -- which there is
      pub there : (o : Option ReadRecord) → told_record o ≡ read_at b h.state.place → IsSome o
      there (Some read) e = refl
      there None e = let n = ap (λ (r : ReadRow). r.number) (read_is no_row e) in absurd (omega (arith, n))

      -- where the record of the surface goes
      pub room : (width * h.state.number + width ≤ length h.buffer) × (h.state.number < count)
      room = (omega (arith, number_low, r.counted, r.fits), omega (arith, number_low, r.counted))

      pub came : (read : ReadRow) → read ≡ read_at b h.state.place
          → Came h left (chain read.optic.surface h.state.beam.ray left h.state.passes h.state.t)
      came read e =
          let less : suc (left - 1) ≡ left = omega (arith, some) in
          rw (read_is read e)
          (subst (λ (n : ℕ). Came h left (passes h n h.state.passes h.state.t)) less
          (comes (left - 1)
          (subst (λ (n : ℕ). Passing h left h.state.passes h.state.t h.state.steps n) (sym less) begun)))
        where
          begun : Passing h left h.state.passes h.state.t h.state.steps left
          begun =
              record {
                same = ap (λ (s : State). advance l left (held s h.buffer)) (sym (paused_is h.state run));
                fit = subst (λ (s : State). Fit l (length b) s) (sym (paused_is h.state run)) r.fit;
                some = some;
                within = omega arith;
                even = refl;
                level = refl;
              }

  module _ {allowed : ℕ} {h₀ h : Held} {left : ℕ} (r : Runs allowed h₀ h left) where
    pub runs_done : left ≤ 0 → h ≡ advance l allowed h₀
    unfolding advance
    runs_done e = let z : left ≡ 0 = omega arith in sym (r.same ∙ ap (λ (n : ℕ). advance l n h) z)

    pub runs_ended : (h.state.outcome ≡ 0 → ⊥) → h ≡ advance l allowed h₀
    runs_ended e = sym (r.same ∙ advance_ended l left h e)

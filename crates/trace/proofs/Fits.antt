-- Which states fit a recipe, that a step keeps them fitting, and what that says of a check's notes. Assumes nothing.
use Rattle.std.specs.Prelude.{if◌then◌else◌}
use Prim.Native.Nat.{ℕ, ◌+◌, ◌*◌, ◌≤◌, ◌<◌}
use mathlib.Core.Path.{◌≡◌, refl, sym, ◌∙◌, ap, subst}
use mathlib.Core.List.{List}
use mathlib.Core.Bool.{Bool, true, false, ◌&&◌, ◌||◌}
use native.Mathlib.Omega.{arith}
use native.Mathlib.Numerals.{add-one}
use lib.ListN.{length}
use lib.Seq.{length-sets}
use lib.Dec.{eqb, ltb, leb}
use lib.Ieee.{Float}
use lib.Ieee.Scale.{finite}
use borrow.Author.Tests.{eq-eqb, ne_eqb, lt-ltb, le-leb, eqb-true, eqb-false, ltb-true, leb-true, not-true}
use Rattle.numbers.specs.Arithmetic.{◌≤₆₄◌, 0f}
use Rattle.surfaces.specs.Types.{all_finite, ray_finite}
use Rattle.surfaces.specs.Refusal.{Told, done, stops}
use Rattle.surfaces.specs.Newton.{going}
use Rattle.surfaces.specs.Surface.{pass_answer, limit_of}
use Rattle.surfaces.specs.declared.types.Landing.{Landing}
use Rattle.numbers.proofs.Choice.{either, both, or_else}
use Rattle.surfaces.proofs.Stops.{pass_stops, pass_limit}
use Rattle.surfaces.proofs.Chains.{limit_bounds}
use Rattle.recipe.specs.declared.record.Optic.{Optic}
use Rattle.recipe.specs.Scan.{Verdict}
use Rattle.recipe.specs.Scan.{Item, item_at, place_of, notes, nothing, sum_limits}
use Rattle.recipe.proofs.Chain.{Chain, place_next, place_end, place_at, index_there}
use Rattle.recipe.proofs.Notes.{notes_count, notes_limits, notes_found}
use Rattle.trace.specs.declared.leg.Beam.{Beam}
use Rattle.trace.specs.declared.leg.Leg.{Leg}
use Rattle.trace.specs.declared.state.State.{State}
use Rattle.trace.specs.Leg.{leg_finite, leg_of, beam_after, row_of, width}
use Rattle.trace.specs.State.{Held, held, paused_at, state_after, surface_left, step_on, move, outcome_known}
use Rattle.trace.specs.State.{place_fits, passes_fit, beam_good, fits_of}
use Rattle.trace.specs.State.{standing}
use Rattle.trace.specs.Parts.{Stands, walking, arrived, stopped, Fit}
use Rattle.trace.proofs.Endings.{leg_stops, leg_finite_lem}

abbrev IndexGood : Float → Type 0
IndexGood n = (finite n ≡ true) × ((n ≤₆₄ 0f) ≡ false)

-- what a good beam says of its ray, its path and its index
pub good_beam : (b : Beam) → beam_good b ≡ true
    → (ray_finite b.ray ≡ true) × (finite b.path ≡ true) × IndexGood b.index
unfolding beam_good
good_beam b h =
    let sign = both (ray_finite b.ray && finite b.path && finite b.index) _ h in
    let index = both (ray_finite b.ray && finite b.path) _ sign.0 in
    let ray = both (ray_finite b.ray) _ index.0 in
    (ray.0, ray.1, (index.1, not-true (b.index ≤₆₄ 0f) sign.1))

-- a beam after a hit
module _ (o : Optic) (b : Beam) (g : Leg) where
  beam_good_lem : leg_finite g ≡ true → beam_good b ≡ true → IndexGood o.index → beam_good (beam_after o b g) ≡ true
  unfolding leg_finite beam_good beam_after ray_finite
  beam_good_lem h before after =
      let n = either IndexGood o.mirror b.index o.index (good_beam b before).2 after in
      let rest = both _ (finite g.path) h in
      let direction = both _ (all_finite g.direction) rest.0 in
      let normal = both _ (all_finite g.normal) direction.0 in
      let point = both (finite g.t) _ normal.0 in
      rw (point.1, direction.1, rest.1, n.0, n.1)

-- the steps of a state that has not ended
module _ (y : List ℕ) (l : List Item) (ch : Chain y 0 l) (s : State) (z : List Float) (fit : Fit l (length y) s)
    (low : s.number < length l) where
  abbrev i : Item
  i = item_at l s.number

  abbrev o : Optic
  o = i.optic

  abbrev x : Told Landing
  x = pass_answer o.surface s.beam.ray s.passes s.t

  abbrev e : Told Leg
  e = leg_of s.number o s.beam x

  -- the state behind a hit, by whether it was the last surface
  abbrev behind : Bool → State
  behind last =
      standing (s.number + 1) i.next (beam_after o s.beam e.value) (s.steps + 1) (if last then 1 else 0)

  after_hit : done e ≡ true → (last : Bool) → eqb (s.number + 1) (length l) ≡ last → Fit l (length y) (behind last)
  after_hit d last q = record {
    beam =
        beam_good_lem o s.beam e.value (leg_finite_lem s.number o s.beam x d) fit.beam
        (index_there y ch s.number low);
    place = place_next y ch s.number low ∙ ap (λ (k : ℕ). place_of l (length y) k) (sym (add-one s.number));
    stands = stand last q;
  }
    where
      stand : (t : Bool) → eqb (s.number + 1) (length l) ≡ t → Stands l (behind t)
      stand true q = arrived refl (eqb-true (s.number + 1) (length l) q) refl
      stand false q =
          let h = eqb-false (s.number + 1) (length l) q in
          walking refl (omega arith) (limit_bounds (item_at l (s.number + 1)).optic.surface.kind).0

  after_step : (g : Bool) → going x ≡ g → (d : Bool) → done e ≡ d
      → Fit l (length y) (step_on i (length l) (held s z)).state
  unfolding step_on surface_left paused_at state_after
  after_step true g d h =
      let few = pass_limit o.surface s.beam.ray s.passes s.t g in
      rw g (record { beam = fit.beam; place = fit.place; stands = walking refl low few })
  after_step false g true h = rw (g, h) (after_hit h _ refl)
  after_step false g false h =
      let pass = pass_stops o.surface s.beam.ray s.passes s.t g in
      let stop = leg_stops s.number o s.beam x pass h in
      rw (g, h) (record { beam = fit.beam; place = fit.place; stands = stopped stop low refl })

  steps_after : (g : Bool) → going x ≡ g → (d : Bool) → done e ≡ d
      → (step_on i (length l) (held s z)).state.steps ≡ s.steps + 1
  unfolding step_on surface_left paused_at state_after
  steps_after true g d h = rw g
  steps_after false g true h = rw (g, h)
  steps_after false g false h = rw (g, h)

  length_after : (g : Bool) → going x ≡ g → length (step_on i (length l) (held s z)).buffer ≡ length z
  unfolding step_on surface_left
  length_after true g = rw g
  length_after false g = rw g (length-sets z (width * s.number) (row_of e (s.passes + 1)))

walks : {l : List Item} {s : State} → Stands l s → s.outcome ≡ 0 → s.number < length l
walks (walking o n p) e = n
walks (arrived o n p) e = absurd (omega (arith, o, e))
walks (stopped o n p) e = n

-- a move, and none once ended
module _ (y : List ℕ) (l : List Item) (ch : Chain y 0 l) (h : Held) (fit : Fit l (length y) h.state)
    (run : h.state.outcome ≡ 0) where
  pub low : h.state.number < length l
  low = walks fit.stands run

  pub fit_move : Fit l (length y) (move l h).state
  unfolding move
  fit_move = rw (eq-eqb h.state.outcome 0 run) (after_step y l ch h.state h.buffer fit low _ refl _ refl)

  pub steps_move : (move l h).state.steps ≡ h.state.steps + 1
  unfolding move
  steps_move = rw (eq-eqb h.state.outcome 0 run) (steps_after y l ch h.state h.buffer fit low _ refl _ refl)

  pub length_move : length (move l h).buffer ≡ length h.buffer
  unfolding move
  length_move = rw (eq-eqb h.state.outcome 0 run) (length_after y l ch h.state h.buffer fit low _ refl)

-- the numbers that stop are the outcomes besides 0 and 1
module _ (n : ℕ) where
  abbrev high : Bool
  high = leb 4 n && leb n 9

  known_stops : outcome_known n ≡ true → (n ≡ 0 → ⊥) → (n ≡ 1 → ⊥) → stops n ≡ true
  unfolding outcome_known stops
  known_stops h a b = by (leb n 2) refl h
    where
      by : (t : Bool) → leb n 2 ≡ t → (t || high) ≡ true → (eqb n 2 || high) ≡ true
      by true e h = rw (eq-eqb n 2 (let q = leb-true n 2 e in omega arith))
      by false e h = or_else (eqb n 2) high h

  pub stops_known : stops n ≡ true → (outcome_known n ≡ true) × (n ≡ 0 → ⊥) × (n ≡ 1 → ⊥)
  unfolding outcome_known stops
  stops_known h = by (eqb n 2) refl h
    where
      by : (t : Bool) → eqb n 2 ≡ t → (t || high) ≡ true → ((leb n 2 || high) ≡ true) × (n ≡ 0 → ⊥) × (n ≡ 1 → ⊥)
      by true e h = let q = eqb-true n 2 e in (rw (le-leb n 2 (omega arith)), λ z. omega arith, λ z. omega arith)
      by false e h =
          let q = leb-true 4 n (both (leb 4 n) (leb n 9) h).0 in
          (or_else (leb n 2) high h, λ z. omega arith, λ z. omega arith)

-- what a check notes of the surface that a state is at
module _ (l : List Item) (end : ℕ) (s : State) where
  abbrev c : Verdict
  c = notes s.number nothing l

  pub count_is : c.count ≡ length l
  count_is = omega (arith, notes_count s.number nothing l)

  pub limits_is : c.limits ≡ sum_limits l
  limits_is = omega (arith, notes_limits s.number nothing l)

  pub found_is : s.number < length l
      → (c.found ≡ place_of l end s.number) × (c.limit ≡ limit_of (item_at l s.number).optic.surface.kind)
  found_is h =
      let q = notes_found s.number nothing l s.number (omega arith) h in
      (q.0 ∙ sym (place_at l end s.number h), q.1)

  module _ (h : fits_of c end s ≡ true) where
    beam : beam_good s.beam ≡ true
    unfolding fits_of
    beam = (both (outcome_known s.outcome && place_fits c end s && passes_fit c s && leb s.steps c.limits) _ h).1

    steps : leb s.steps c.limits ≡ true
    unfolding fits_of
    steps =
        let rest = (both _ (beam_good s.beam) h).0 in
        (both (outcome_known s.outcome && place_fits c end s && passes_fit c s) _ rest).1

    few : (outcome_known s.outcome && place_fits c end s && passes_fit c s) ≡ true
    unfolding fits_of
    few = (both _ (leb s.steps c.limits) (both _ (beam_good s.beam) h).0).0

    passes : passes_fit c s ≡ true
    passes = (both (outcome_known s.outcome && place_fits c end s) _ few).1

    place : place_fits c end s ≡ true
    place = (both (outcome_known s.outcome) _ (both _ (passes_fit c s) few).0).1

    known : outcome_known s.outcome ≡ true
    known = (both _ (place_fits c end s) (both _ (passes_fit c s) few).0).0

    pub few_steps : s.steps ≤ sum_limits l
    few_steps = subst (λ (k : ℕ). s.steps ≤ k) limits_is (leb-true _ _ steps)

    by_outcome : (t : Bool) → eqb s.outcome 1 ≡ t → (u : Bool) → eqb s.outcome 0 ≡ u
        → (if t then eqb s.number c.count && eqb s.place end else
        ltb s.number c.count && eqb s.place c.found) ≡ true
        → (if u then ltb s.passes c.limit else eqb s.passes 0) ≡ true
        → (s.place ≡ place_of l end s.number) × Stands l s
    by_outcome true e true f p q = absurd (omega (arith, eqb-true s.outcome 1 e, eqb-true s.outcome 0 f))
    by_outcome true e false f p q =
        let n : s.number ≡ length l = eqb-true _ _ (both _ (eqb s.place end) p).0 ∙ count_is in
        let at_end = ap (λ (k : ℕ). place_of l end k) n ∙ place_end l end in (
          eqb-true _ _ (both (eqb s.number c.count) _ p).1 ∙ sym at_end,
          arrived (eqb-true _ _ e) n (eqb-true _ _ q),
        )
    by_outcome false e true f p q =
        let n = subst (λ (k : ℕ). s.number < k) count_is (ltb-true _ _ (both _ (eqb s.place c.found) p).0) in (
          eqb-true _ _ (both (ltb s.number c.count) _ p).1 ∙ (found_is n).0,
          walking (eqb-true _ _ f) n (subst (λ (k : ℕ). s.passes < k) (found_is n).1 (ltb-true _ _ q)),
        )
    by_outcome false e false f p q =
        let n = subst (λ (k : ℕ). s.number < k) count_is (ltb-true _ _ (both _ (eqb s.place c.found) p).0) in (
          eqb-true _ _ (both (ltb s.number c.count) _ p).1 ∙ (found_is n).0,
          stopped (known_stops s.outcome known (eqb-false _ _ f) (eqb-false _ _ e)) n (eqb-true _ _ q),
        )

    pub fits_fit : Fit l end s
    unfolding place_fits passes_fit
    fits_fit = let w = by_outcome _ refl _ refl place passes in record { beam = beam; place = w.0; stands = w.1 }

  -- and the other way round
  module _ (fit : Fit l end s) where
    by_stand : Stands l s → (outcome_known s.outcome ≡ true) × (place_fits c end s ≡ true) × (passes_fit c s ≡ true)
    unfolding outcome_known place_fits passes_fit
    by_stand (walking o n p) = (
      rw o,
      rw (
        ne_eqb s.outcome 1 (λ e. omega arith),
        lt-ltb s.number c.count (subst (λ (k : ℕ). s.number < k) (sym count_is) n),
        eq-eqb s.place c.found (fit.place ∙ sym (found_is n).0),
      ),
      rw (eq-eqb s.outcome 0 o) (lt-ltb _ _ (subst (λ (k : ℕ). s.passes < k) (sym (found_is n).1) p)),
    )
    by_stand (arrived o n p) = (
      rw o,
      rw (
        eq-eqb s.outcome 1 o,
        eq-eqb s.number c.count (n ∙ sym count_is),
        eq-eqb s.place end (fit.place ∙ ap (λ (k : ℕ). place_of l end k) n ∙ place_end l end),
      ),
      rw (ne_eqb s.outcome 0 (λ e. omega arith)) (eq-eqb _ _ p),
    )
    by_stand (stopped o n p) =
        let k = stops_known s.outcome o in (
          k.0,
          rw (
            ne_eqb s.outcome 1 k.2,
            lt-ltb s.number c.count (subst (λ (k : ℕ). s.number < k) (sym count_is) n),
            eq-eqb s.place c.found (fit.place ∙ sym (found_is n).0),
          ),
          rw (ne_eqb s.outcome 0 k.1) (eq-eqb _ _ p),
        )

    pub fit_fits : s.steps ≤ sum_limits l → fits_of c end s ≡ true
    unfolding fits_of
    fit_fits h =
        let w = by_stand fit.stands in
        let few = le-leb s.steps c.limits (subst (λ (k : ℕ). s.steps ≤ k) (sym limits_is) h) in
        rw (w.0, w.1, w.2, few, fit.beam)

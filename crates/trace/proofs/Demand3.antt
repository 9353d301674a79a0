-- Demand 3: however the allowances are chosen, what stands after every call is the unbroken trace's. Assumes nothing.
use Prim.Native.Nat.{ℕ, zero, suc, ◌+◌, ◌*◌, ◌≤◌, zero-le}
use mathlib.Core.Path.{◌≡◌, refl, sym, ◌∙◌, ap, subst}
use mathlib.Core.Logic.{◌≢◌}
use mathlib.Core.List.{List, [], ◌∷◌}
use mathlib.Core.Bool.{Bool, true, false}
use native.Mathlib.Omega.{arith}
use native.Mathlib.Nat.{add-zero, zero-add}
use lib.ListN.{length, length-replicate}
use lib.Dec.{eqb, ltb}
use lib.Ieee.{Float}
use borrow.Author.Tests.{le-ltb, eqb-true, eqb-false}
use Rattle.numbers.specs.Arithmetic.{0f}
use Rattle.surfaces.specs.Surface.{limit_of}
use Rattle.surfaces.specs.declared.types.Ray.{Ray}
use Rattle.surfaces.specs.declared.surface.Kind.TheVariants.{Conic, Asphere, Biconic, Toroid}
use Rattle.numbers.proofs.Choice.{either}
use Rattle.surfaces.proofs.Chains.{limit_bounds}
use Rattle.recipe.specs.Scan.{Item, Scan, notes, nothing, place_of, sum_limits}
use Rattle.recipe.proofs.Chain.{Chain, place_first}
use Rattle.recipe.proofs.Scans.{scan_sound}
use Rattle.trace.specs.declared.leg.Beam.{Beam}
use Rattle.trace.specs.declared.state.State.{State}
use Rattle.trace.specs.Leg.{width}
use Rattle.trace.specs.Unbroken.{Mark, Trace, unbroken, total, rows, padded}
use Rattle.trace.specs.State.{Held, held, standing, move, advance, fits_of}
use Rattle.trace.specs.Run.{most_records, Reply, recipe_of, items_of, optics_of, blank, beam_of, first_state, accept}
use Rattle.trace.specs.Run.{start_at, start_of, continue_on, continue_of}
use Rattle.trace.specs.Parts.{Stands, walking, arrived, Fit}
use Rattle.trace.specs.Demand3.{calls, sum, state_at, trace_of, Over, Kept, called, Demand3}
use Rattle.trace.proofs.Steps.{advance_add, move_ended}
use Rattle.trace.proofs.Closed.{Shows, outcome_before, closed}
use Rattle.trace.proofs.Standing.{how_far, exactly, total_limit, has_outcome, finished_all, at_end}
use Rattle.trace.proofs.Fits.{fit_move, length_move, fit_fits}
use Rattle.trace.proofs.Walks.{chain_of}
use Rattle.trace.proofs.Starts.{Admitted, admitted_by, admitted_is}

-- what an advance keeps
module _ (y : List ℕ) (l : List Item) (ch : Chain y 0 l) where
  pub record Genuine (size : ℕ) (h : Held) : Type 0 where
    pub fit : Fit l (length y) h.state
    pub long : length h.buffer ≡ size

  sound_move : (size : ℕ) (h : Held) → Genuine size h → (t : Bool) → eqb h.state.outcome 0 ≡ t
      → Genuine size (move l h)
  sound_move size h s true e =
      let run = eqb-true h.state.outcome 0 e in
      record { fit = fit_move y l ch h s.fit run; long = length_move y l ch h s.fit run ∙ s.long }
  sound_move size h s false e = rw (move_ended l h (eqb-false h.state.outcome 0 e)) s

  sound_advance : (size n : ℕ) (h : Held) → Genuine size h → Genuine size (advance l n h)
  unfolding advance
  sound_advance size zero h s = s
  sound_advance size (suc n) h s = sound_advance size n (move l h) (sound_move size h s _ refl)

first_stands : (l : List Item) (b : Beam) → Stands l (first_state (length l) b)
first_stands [] b = arrived refl refl refl
first_stands (i ∷ l) b =
    walking (outcome_before (i ∷ l) (i ∷ l) 0 refl zero-le) (omega arith) (limit_bounds i.optic.surface.kind).0

module _ (y : List ℕ) (ray : Ray) (index : Float) (z : List Float)
    (a : Admitted (recipe_of y) ray index (blank z)) where
  abbrev l : List Item
  l = items_of y

  abbrev b : Beam
  b = beam_of ray index

  abbrev first : Held
  first = held (first_state (length l) b) (blank z)

  abbrev u : Trace
  u = unbroken 0 (optics_of l) b

  pub chain : Chain y 0 l
  chain = chain_of y a.good

  first_fit : Fit l (length y) first.state
  first_fit = record { beam = a.beam; place = sym (place_first y chain); stands = first_stands l b }

  pub sound : (n : ℕ) → Genuine y l chain (length z) (advance l n first)
  sound n =
      sound_advance y l chain (length z) n first
      (record { fit = first_fit; long = length-replicate (length z) 0f })

  -- before the first surface, by an outcome
  abbrev at_first : ℕ → Held
  at_first outcome = held (standing 0 0 b 0 outcome) (blank z)

  -- after n steps
  pub shown : (n : ℕ) → Shows [] (length z) n u (state_at l (length y) 0 b 0 n) (advance l n first)
  shown n =
      let room = subst (λ (k : ℕ). width * length l ≤ k) (length-replicate (length z) 0f) a.room in
      let Shown : ℕ → Type 0 =
      λ o. Shows [] (length z) n u (state_at l (length y) 0 b 0 n) (advance l n (at_first o)) in
      subst Shown (sym (outcome_before l l 0 refl zero-le)) (closed y l l chain 0 0 (length z) n b [] refl refl room)

  few : (n : ℕ) → (advance l n first).state.steps ≤ sum_limits l
  few n =
      let s = ap (λ (s : State). s.steps) (shown n).state ∙ (how_far l (length y) 0 0 n b).steps in
      omega (arith, s, total_limit 0 l b)

  genuine_fits : (n : ℕ)
      → fits_of (notes (advance l n first).state.number nothing l) (length y) (advance l n first).state ≡ true
  genuine_fits n = fit_fits l (length y) (advance l n first).state (sound n).fit (few n)

  pub call : (n k : ℕ)
      → continue_of y (advance l n first).state (advance l n first).buffer k ≡ accept (advance l (n + k) first)
  unfolding continue_of
  call n k =
      let h : Held = advance l n first in
      let room : width * length l ≤ length h.buffer =
      omega (arith, (sound n).long, length-replicate (length z) 0f, a.room) in
      ap (λ (r : Scan). continue_on r (length y) h.state h.buffer k) a.good
      ∙ rw (le-ltb (length h.buffer) (width * length l) room, genuine_fits n)
      (ap accept (sym (advance_add l n k first)))

  row : (ks : List ℕ) (n : ℕ) → calls y ks (accept (advance l n first)) ≡ accept (advance l (n + sum ks) first)
  unfolding calls sum
  row [] n = rw (add-zero n)
  row (k ∷ ks) n =
      let e : n + k + sum ks ≡ n + (k + sum ks) = omega arith in
      ap (λ (r : Reply). calls y ks r) (call n k) ∙ row ks (n + k) ∙ ap (λ (m : ℕ). accept (advance l m first)) e

  -- the state at the trace's end
  abbrev ended : State
  ended = standing u.hits (place_of l (length y) u.hits) u.beam (total u.marks) u.outcome

  -- n steps are enough
  over : (n : ℕ) → total u.marks ≤ n → Over u (length z) (accept (advance l n first))
  over n h =
      let s = shown n in
      let e = at_end l (length y) 0 0 n b h in
      let at : (advance l n first).state ≡ ended =
      s.state ∙ e ∙ rw (zero-add u.hits, zero-add (total u.marks)) in
      record {
        outcome = ap (λ (q : State). q.outcome) at;
        ended = has_outcome 0 l b;
        steps = ap (λ (q : State). q.steps) at;
        number = ap (λ (q : State). q.number) at;
        beam = ap (λ (q : State). q.beam) at;
        buffer = s.buffer ∙ ap (λ (m : List Mark). padded (length z) (rows m)) (finished_all u.marks n h);
      }

  kept : (n : ℕ)
      → Kept (trace_of y ray index) (state_at l (length y) 0 b 0 n) (length z) n (accept (advance l n first))
  unfolding trace_of
  kept n =
      let s = shown n in
      let r = how_far l (length y) 0 0 n b in
      record {
        accepted = refl;
        place = refl;
        buffer = s.buffer;
        exactly = exactly u.marks n;
        steps = ap (λ (q : State). q.steps) s.state ∙ r.steps ∙ zero-add _;
        state = s.state;
        outcome = ap (λ (q : State). q.outcome) s.state ∙ r.outcome;
        over = over n;
      }

-- an accepted start
module _ (y : List ℕ) (ray : Ray) (index : Float) (z : List Float)
    (h : (start_of y ray index z).answer.number ≡ 1) where
  pub admitted_start : Admitted (recipe_of y) ray index (blank z)
  unfolding start_of start_at
  admitted_start = admitted_by 0 ray index (blank z) (recipe_of y) (scan_sound true y most_records 0) _ h

  pub started : start_of y ray index z ≡ accept (held (first_state (length (items_of y)) (beam_of ray index)) (blank z))
  unfolding start_of start_at
  started = admitted_is 0 ray index (blank z) (recipe_of y) admitted_start _

  -- what stands after n steps, and what is to be kept of it
  abbrev after : ℕ → Reply
  after n = accept (advance (items_of y) n (held (first_state (length (items_of y)) (beam_of ray index)) (blank z)))

  abbrev Keeps : ℕ → Reply → Type 0
  Keeps n r = Kept (trace_of y ray index) (state_at (items_of y) (length y) 0 (beam_of ray index) 0 n) (length z) n r

  after_calls : (ks : List ℕ) → calls y ks (start_of y ray index z) ≡ after (sum ks)
  unfolding advance
  after_calls ks =
      ap (λ (r : Reply). calls y ks r) started
      ∙ row y ray index z admitted_start ks 0
      ∙ ap after (zero-add (sum ks))

  any_allowances : (ks : List ℕ) → Keeps (sum ks) (called y ray index z ks)
  any_allowances ks =
      subst (Keeps (sum ks)) (sym (after_calls ks)) (kept y ray index z admitted_start (sum ks))

  has_ended : (ks : List ℕ) → sum_limits (items_of y) ≤ sum ks
      → Over (trace_of y ray index) (length z) (called y ray index z ks)
  unfolding trace_of
  has_ended ks h = (any_allowances ks).over (omega (arith, total_limit 0 (items_of y) (beam_of ray index)))

  never_12 : (ks : List ℕ) (w : List Float) (n : ℕ)
      → (continue_of y (called y ray index z ks).answer.state w n).answer.number ≢ 12
  unfolding continue_of
  never_12 ks w n =
      let Not12 : Reply → Type 0 = λ r. r.answer.number ≢ 12 in
      rw (after_calls ks, admitted_start.good, genuine_fits y ray index z admitted_start (sum ks))
      (either Not12 (ltb (length w) (width * length (items_of y))) _ _ (λ e. omega arith) (λ e. omega arith))

kind_limits : (c k cy ky : Float)
    → (limit_of (Conic c k) ≡ 1) × (limit_of (Asphere c k false) ≡ 25) × (limit_of (Asphere c k true) ≡ 25)
    × (limit_of (Biconic c k cy ky) ≡ 35) × (limit_of (Toroid c k cy) ≡ 35)
unfolding limit_of
kind_limits c k cy ky = (refl, refl, refl, refl, refl)

pub demand_3 : Demand3
demand_3 = record {
  keeps = λ b ray index z ks h. any_allowances b ray index z h ks;
  ends = λ b ray index z ks h l. has_ended b ray index z h ks l;
  limits = kind_limits;
  fits = λ b ray index z ks h y n. never_12 b ray index z h ks y n;
}

-- The state after n steps beside the unbroken trace, and which surfaces are finished by then. Assumes nothing.
use Rattle.std.specs.Prelude.{if◌then◌else◌}
use Prim.Native.Nat.{ℕ, zero, suc, ◌+◌, ◌-◌, ◌≤◌, ◌<◌, min, zero-le}
use mathlib.Core.Path.{◌≡◌, refl, sym, ◌∙◌, ap}
use mathlib.Core.Logic.{◌≢◌, ◌↔◌}
use mathlib.Core.List.{List, [], ◌∷◌}
use mathlib.Core.Bool.{Bool, true, false}
use native.Mathlib.Omega.{arith}
use native.Mathlib.Nat.{add-zero}
use lib.ListN.{length, take}
use lib.Dec.{leb, leb-zero}
use borrow.Author.Tests.{le-leb, lt-leb, leb-true, leb-false}
use Rattle.numbers.specs.Arithmetic.{0f}
use Rattle.surfaces.specs.Refusal.{Told, Ended, done}
use Rattle.surfaces.specs.Surface.{surface_end, limit_of}
use Rattle.surfaces.proofs.Chains.{chain_ends}
use Rattle.recipe.specs.Scan.{Item, place_of, sum_limits}
use Rattle.trace.specs.declared.leg.Beam.{Beam}
use Rattle.trace.specs.declared.leg.Leg.{Leg}
use Rattle.trace.specs.declared.state.State.{State}
use Rattle.trace.specs.Leg.{leg_of, beam_after}
use Rattle.trace.specs.Unbroken.{Mark, Trace, unbroken, total, finished}
use Rattle.trace.specs.Run.{optics_of}
use Rattle.trace.specs.State.{standing}
use Rattle.trace.specs.Demand3.{state_at, steps_to}
use Rattle.trace.proofs.Closed.{unbroken_hit, unbroken_off, state_mid, state_hit, state_off, never_going_on}

-- how far a trace u has come after n steps, by a state s that began with q steps
pub record HowFar (u : Trace) (q n : ℕ) (s : State) : Type 0 where
  pub steps : s.steps ≡ q + min n (total u.marks)
  pub outcome : s.outcome ≡ (if leb (total u.marks) n then u.outcome else 0)

module _ (q n : ℕ) (a : Mark) where
  unfinished : (u : Trace) (s : State) → n < a.steps → (l : List Mark) → u.marks ≡ a ∷ l → s.steps ≡ q + n
      → s.outcome ≡ 0 → HowFar u q n s
  unfolding total
  unfinished u s h l m f g =
      let t : n < total u.marks = rw m (omega arith) in
      record { steps = f ∙ omega (arith, t); outcome = rw (lt-leb (total u.marks) n t) g }

  refused : (s : State) (o : ℕ) (b : Beam) → a.steps ≤ n → s.steps ≡ q + a.steps → s.outcome ≡ o
      → HowFar (record { marks = a ∷ []; outcome = o; beam = b; hits = 0 }) q n s
  unfolding total
  refused s o b h f g = record { steps = f ∙ omega arith; outcome = rw (le-leb (a.steps + 0) n (omega arith)) g }

  hit : (u : Trace) (s : State) → a.steps ≤ n → HowFar u (q + a.steps) (n - a.steps) s
      → HowFar (record { marks = a ∷ u.marks; outcome = u.outcome; beam = u.beam; hits = suc u.hits }) q n s
  unfolding total
  hit u s h r =
      record {
        steps = r.steps ∙ omega arith;
        outcome =
            r.outcome
            ∙ ap (λ (t : Bool). if t then u.outcome else 0) (shift (leb (total u.marks) (n - a.steps)) refl);
      }
    where
      shift : (t : Bool) → leb (total u.marks) (n - a.steps) ≡ t → t ≡ leb (a.steps + total u.marks) n
      shift true e =
          sym (le-leb (a.steps + total u.marks) n (omega (arith, leb-true (total u.marks) (n - a.steps) e)))
      shift false e =
          sym (lt-leb (a.steps + total u.marks) n (omega (arith, leb-false (total u.marks) (n - a.steps) e)))

-- the state at the end of a trace u
abbrev Last : List Item → ℕ → ℕ → ℕ → Trace → State
Last r end k q u = standing (k + u.hits) (place_of r end u.hits) u.beam (q + total u.marks) u.outcome

-- one surface, and what lies behind it
module _ (i : Item) (r : List Item) (end k q n : ℕ) (b : Beam) where
  abbrev e : Ended
  e = surface_end i.optic.surface b.ray

  abbrev x : Told Leg
  x = leg_of k i.optic b e.answer

  abbrev onward : Beam
  onward = beam_after i.optic b x.value

  abbrev later : Trace
  later = unbroken (k + 1) (optics_of r) onward

  abbrev later_state : State
  later_state = state_at r end (k + 1) onward (q + e.passes) (n - e.passes)

  abbrev whole : Trace
  whole = unbroken k (optics_of (i ∷ r)) b

  on_surface : (t : Bool) → leb e.passes n ≡ t → (d : Bool) → done x ≡ d
      → HowFar later (q + e.passes) (n - e.passes) later_state → HowFar whole q n (state_at (i ∷ r) end k b q n)
  on_surface false t true d rest =
      let h = leb-false e.passes n t in
      let marks = ap (λ (u : Trace). u.marks) (unbroken_hit k i r b d) in
      rw (state_mid k i r b end q n h) (unfinished q n _ _ _ h _ marks refl refl)
  on_surface false t false d rest =
      let h = leb-false e.passes n t in
      let marks = ap (λ (u : Trace). u.marks) (unbroken_off k i r b d) in
      rw (state_mid k i r b end q n h) (unfinished q n _ _ _ h _ marks refl refl)
  on_surface true t true d rest =
      let h = leb-true e.passes n t in
      rw (state_hit k i r b end q n h d, unbroken_hit k i r b d) (hit q n _ _ _ h rest)
  on_surface true t false d rest =
      let h = leb-true e.passes n t in
      rw (state_off k i r b end q n h d, unbroken_off k i r b d) (refused q n _ _ _ _ h refl refl)

  last_surface : (d : Bool) → done x ≡ d → total whole.marks ≤ n
      → (total later.marks ≤ n - e.passes → later_state ≡ Last r end (k + 1) (q + e.passes) later)
      → state_at (i ∷ r) end k b q n ≡ Last (i ∷ r) end k q whole
  unfolding total place_of
  last_surface true d h rest =
      let t : total whole.marks ≡ _ = ap (λ (u : Trace). total u.marks) (unbroken_hit k i r b d) in
      let u : Trace = later in
      let a : k + 1 + u.hits ≡ k + suc u.hits = omega arith in
      let f : q + e.passes + total u.marks ≡ q + (e.passes + total u.marks) = omega arith in
      state_hit k i r b end q n (omega arith) d ∙ rest (omega arith) ∙ rw (unbroken_hit k i r b d, a, f)
  last_surface false d h rest =
      let t : total whole.marks ≡ _ = ap (λ (u : Trace). total u.marks) (unbroken_off k i r b d) in
      state_off k i r b end q n (omega arith) d ∙ rw (unbroken_off k i r b d, add-zero k, add-zero e.passes)

pub how_far : (r : List Item) (end k q n : ℕ) (b : Beam)
    → HowFar (unbroken k (optics_of r) b) q n (state_at r end k b q n)
unfolding unbroken state_at total
how_far [] end k q n b = record { steps = omega arith; outcome = rw (leb-zero n) }
how_far (i ∷ r) end k q n b = on_surface i r end k q n b _ refl _ refl (how_far r end (k + 1) _ _ _)

-- surface k is finished if and only if its steps and those before it add up to at most n
pub exactly : (l : List Mark) (n k : ℕ) → k < length l → (k < length (finished n l)) ↔ (steps_to k l ≤ n)
unfolding finished total
exactly [] n k h = absurd (omega arith)
exactly (m ∷ l) n k h = by (leb m.steps n) refl k h (λ j i. exactly l (n - m.steps) j i)
  where
    by : (t : Bool) → leb m.steps n ≡ t → (k : ℕ) → k < suc (length l)
        → ((j : ℕ) → j < length l → (j < length (finished (n - m.steps) l)) ↔ (steps_to j l ≤ n - m.steps))
        → (k < length (if t then m ∷ finished (n - m.steps) l else [])) ↔ (m.steps + total (take k l) ≤ n)
    by false e k h rest = (λ a. absurd (omega arith), λ b. absurd (omega (arith, leb-false m.steps n e)))
    by true e zero h rest = let f = leb-true m.steps n e in (λ a. omega arith, λ b. omega arith)
    by true e (suc j) h rest =
        let f = leb-true m.steps n e in
        let later = rest j (omega arith) in
        (λ a. omega (arith, later.0 (omega arith)), λ b. omega (arith, later.1 (omega arith)))

few : (k : ℕ) (i : Item) (l : List Item) (b : Beam) (d : Bool)
    → done (leg_of k i.optic b (surface_end i.optic.surface b.ray).answer) ≡ d
    → ((c : Beam) → total (unbroken (k + 1) (optics_of l) c).marks ≤ sum_limits l)
    → total (unbroken k (optics_of (i ∷ l)) b).marks ≤ limit_of i.optic.surface.kind + sum_limits l
unfolding total
few k i l b true d rest =
    let within = (chain_ends i.optic.surface b.ray 0f).within in
    let x = leg_of k i.optic b (surface_end i.optic.surface b.ray).answer in
    rw (unbroken_hit k i l b d) (omega (arith, within, rest (beam_after i.optic b x.value)))
few k i l b false d rest =
    let within = (chain_ends i.optic.surface b.ray 0f).within in
    rw (unbroken_off k i l b d) (omega (arith, within))

-- the steps of a trace are at most the sum of all limits
pub total_limit : (k : ℕ) (l : List Item) (b : Beam) → total (unbroken k (optics_of l) b).marks ≤ sum_limits l
unfolding unbroken total sum_limits
total_limit k [] b = zero-le
total_limit k (i ∷ l) b = few k i l b _ refl (total_limit (k + 1) l)

-- it ends
ending : (k : ℕ) (i : Item) (l : List Item) (b : Beam) (d : Bool)
    → done (leg_of k i.optic b (surface_end i.optic.surface b.ray).answer) ≡ d
    → ((c : Beam) → (unbroken (k + 1) (optics_of l) c).outcome ≢ 0) → (unbroken k (optics_of (i ∷ l)) b).outcome ≢ 0
ending k i l b true d rest = rw (unbroken_hit k i l b d) (rest _)
ending k i l b false d rest = rw (unbroken_off k i l b d) (never_going_on k i.optic b)

pub has_outcome : (k : ℕ) (l : List Item) (b : Beam) → (unbroken k (optics_of l) b).outcome ≢ 0
unfolding unbroken
has_outcome k [] b = λ e. omega arith
has_outcome k (i ∷ l) b = ending k i l b _ refl (has_outcome (k + 1) l)

-- all surfaces are finished once the steps suffice
pub finished_all : (l : List Mark) (n : ℕ) → total l ≤ n → finished n l ≡ l
unfolding finished total
finished_all [] n h = refl
finished_all (m ∷ l) n h =
    let rest = finished_all l (n - m.steps) (omega arith) in
    rw (le-leb m.steps n (omega arith)) (ap (λ (r : List Mark). m ∷ r) rest)

-- and the state is that of the trace's end
pub at_end : (r : List Item) (end k q n : ℕ) (b : Beam) → total (unbroken k (optics_of r) b).marks ≤ n
    → state_at r end k b q n ≡ Last r end k q (unbroken k (optics_of r) b)
unfolding unbroken state_at total place_of
at_end [] end k q n b h = rw (add-zero k, add-zero q)
at_end (i ∷ r) end k q n b h = last_surface i r end k q n b _ refl h (λ g. at_end r end (k + 1) _ _ _ g)

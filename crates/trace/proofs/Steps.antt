-- How steps add up, and what they come to on one surface. Assumes nothing.
use Prim.Native.Nat.{ℕ, zero, suc, ◌+◌, ◌*◌, ◌<◌}
use mathlib.Core.Path.{◌≡◌, refl, ◌∙◌, ap}
use mathlib.Core.List.{List}
use mathlib.Core.Bool.{true, false}
use native.Mathlib.Omega.{arith}
use native.Mathlib.Nat.{add-zero, zero-add}
use native.Mathlib.Numerals.{add-one}
use lib.ListN.{length}
use lib.Seq.{sets}
use lib.Ieee.{Float}
use borrow.Author.Tests.{ne_eqb}
use Rattle.numbers.specs.Arithmetic.{0f}
use Rattle.surfaces.specs.Refusal.{Told}
use Rattle.surfaces.specs.Newton.{going}
use Rattle.surfaces.specs.Surface.{pass_answer, chain_by, chain}
use Rattle.surfaces.specs.declared.types.Landing.{Landing}
use Rattle.recipe.specs.declared.record.Optic.{Optic}
use Rattle.recipe.specs.Scan.{Item, item_at}
use Rattle.trace.specs.declared.leg.Beam.{Beam}
use Rattle.trace.specs.declared.state.State.{State}
use Rattle.trace.specs.Leg.{leg_of, row_of, width}
use Rattle.trace.specs.State.{Held, held, paused_at, state_after, surface_left, step_on, move, advance}
use Rattle.trace.proofs.Passes.{Passes, last, goes}

pub move_ended : (l : List Item) (h : Held) → (h.state.outcome ≡ 0 → ⊥) → move l h ≡ h
unfolding move
move_ended l h e = rw (ne_eqb h.state.outcome 0 e)

pub advance_ended : (l : List Item) (n : ℕ) (h : Held) → (h.state.outcome ≡ 0 → ⊥) → advance l n h ≡ h
unfolding advance
advance_ended l zero h e = refl
advance_ended l (suc n) h e = rw (move_ended l h e) (advance_ended l n h e)

pub advance_add : (l : List Item) (m n : ℕ) (h : Held) → advance l (m + n) h ≡ advance l n (advance l m h)
unfolding advance
advance_add l zero n h = rw (zero-add n)
advance_add l (suc m) n h =
    let e : suc m + n ≡ suc (m + n) = omega arith in
    rw e (advance_add l m n (move l h))

-- a state on the way, after so many passes on surface k
abbrev pub midway : ℕ → ℕ → Beam → ℕ → Float → ℕ → State
midway k place b passes t steps =
    record { number = k; place = place; passes = passes; t = t; beam = b; steps = steps; outcome = 0 }

module _ (l : List Item) (k place : ℕ) (b : Beam) (z : List Float) where
  abbrev o : Optic
  o = (item_at l k).optic

  -- what the end of the surface leaves
  unfoldable pub left : Told Landing → ℕ → ℕ → Held
  unfolding state_after
  left x passes steps =
      let e = leg_of k o b x in
      held (state_after (midway k place b 0 0f 0) (item_at l k).next (length l) o e steps)
      (sets z (width * k) (row_of e passes))

  on : (made steps : ℕ) (t : Float) → going (pass_answer o.surface b.ray made t) ≡ true
      → move l (held (midway k place b made t steps) z)
      ≡ held (midway k place b (made + 1) (pass_answer o.surface b.ray made t).value.t (steps + 1)) z
  unfolding move step_on paused_at
  on made steps t e = rw e

  off : (made steps : ℕ) (t : Float) → going (pass_answer o.surface b.ray made t) ≡ false
      → move l (held (midway k place b made t steps) z)
      ≡ left (pass_answer o.surface b.ray made t) (made + 1) (steps + 1)
  unfolding move step_on surface_left state_after left
  off made steps t e = rw e

  pub lands : {made : ℕ} {t : Float} {more : ℕ} {x : Told Landing} → Passes o.surface b.ray made t more x
      → (steps : ℕ)
      → advance l more (held (midway k place b made t steps) z) ≡ left x (made + more) (steps + more)
  unfolding advance
  lands {made} {t} (last e) steps = off made steps t e
  lands {made} {t} (goes {more = more} {x = x} e p) steps =
      let u : made + 1 + more ≡ made + suc more = omega arith in
      let v : steps + 1 + more ≡ steps + suc more = omega arith in
      ap (λ (h : Held). advance l more h) (on made steps t e) ∙ lands p (steps + 1)
      ∙ ap (λ (n : ℕ). left x n (steps + 1 + more)) u ∙ ap (λ (n : ℕ). left x (made + suc more) n) v

  -- before the last pass nothing is written, and t is where the passes have come to
  pub waits : {made : ℕ} {t : Float} {more : ℕ} {x : Told Landing} → Passes o.surface b.ray made t more x
      → (steps n : ℕ) → n < more
      → advance l n (held (midway k place b made t steps) z)
      ≡ held (midway k place b (made + n) (chain o.surface b.ray n made t).answer.value.t (steps + n)) z
  unfolding advance chain_by pass_answer
  waits {made} p steps zero h = rw (add-zero made, add-zero steps)
  waits (last e) steps (suc n) h = absurd (omega arith)
  waits {made} {t} (goes e p) steps (suc n) h =
      let u : made + 1 + n ≡ made + suc n = omega arith in
      let v : steps + 1 + n ≡ steps + suc n = omega arith in
      let t' : Float = (pass_answer o.surface b.ray made t).value.t in
      let from = chain o.surface b.ray n in
      let c : from (made + 1) t' ≡ from (suc made) t' = rw (add-one made) in
      ap (λ (g : Held). advance l n g) (on made steps t e)
      ∙ waits {made = made + 1} p (steps + 1) n (omega arith) ∙ rw (u, v, c, e)

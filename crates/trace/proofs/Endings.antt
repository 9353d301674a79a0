-- What a surface's end tells: a hit of finite numbers, or a number that stops the trace. Assumes nothing.
use Rattle.std.specs.Prelude.{if◌then◌else◌}
use Prim.Native.Nat.{ℕ}
use mathlib.Core.Path.{◌≡◌, refl, sym, ◌∙◌}
use mathlib.Core.Bool.{Bool, true, false, not, ◌&&◌, false≢true}
use Rattle.surfaces.specs.Refusal.{Told, gives, refused, plain, done, after, stops}
use Rattle.surfaces.specs.Surface.{turn_answer}
use Rattle.surfaces.specs.declared.types.Landing.{Landing}
use Rattle.surfaces.specs.declared.surface.Leaving.{Leaving}
use Rattle.surfaces.proofs.Stops.{turn_stops}
use Rattle.recipe.specs.declared.record.Optic.{Optic}
use Rattle.trace.specs.declared.leg.Beam.{Beam}
use Rattle.trace.specs.declared.leg.Leg.{Leg}
use Rattle.trace.specs.Leg.{no_leg, boundary_of, leg_finite, leg_at, leg_of}

-- either an answer, or a number that stops
abbrev pub Stops : {A : Type 0} → Told A → Type 0
Stops x = done x ≡ false → stops x.line.number ≡ true

after_stops : {A B : Type 0} (blank : B) (x : Told A) (next : A → Told B) → Stops x → ((a : A) → Stops (next a))
    → Stops (after blank x next)
after_stops blank x next p q = by (done x) refl
  where
    by : (d : Bool) → done x ≡ d → Stops (if d then next x.value else refused blank x.line)
    by true e = q x.value
    by false e = λ _. p e

module _ (x : Told Leg) where
  abbrev checked : Bool → Bool → Told Leg
  checked d f = if d && not f then refused no_leg (plain 9) else x

  nine_stops : (d f : Bool) → done x ≡ d → Stops x → Stops (checked d f)
  unfolding stops
  nine_stops true true e p = p
  nine_stops true false e p = λ _. refl
  nine_stops false f e p = p

  hit_finite_lem : (d f : Bool) → done x ≡ d → leg_finite x.value ≡ f → done (checked d f) ≡ true
      → leg_finite (checked d f).value ≡ true
  hit_finite_lem true true e g h = g
  hit_finite_lem true false e g h = absurd (false≢true h)
  hit_finite_lem false f e g h = absurd (false≢true (sym e ∙ h))

module _ (number : ℕ) (o : Optic) (b : Beam) (x : Told Landing) where
  abbrev gone : Landing → Leaving → Told Leg
  gone l v = gives (leg_at number b l v)

  abbrev turned : Landing → Told Leg
  turned l = after no_leg (turn_answer o.surface b.ray.direction l.point (boundary_of o b.index)) (gone l)

  abbrev raw : Told Leg
  raw = after no_leg x turned

  turned_stops : (l : Landing) → Stops (turned l)
  turned_stops l =
      let turn = turn_stops o.surface b.ray.direction l.point (boundary_of o b.index) in
      after_stops no_leg (turn_answer o.surface b.ray.direction l.point (boundary_of o b.index)) (gone l) turn
      (λ v d. absurd (false≢true (sym d)))

  pub leg_stops : Stops x → Stops (leg_of number o b x)
  unfolding leg_of
  leg_stops p = nine_stops raw (done raw) (leg_finite raw.value) refl (after_stops no_leg x turned p turned_stops)

  pub leg_finite_lem : done (leg_of number o b x) ≡ true → leg_finite (leg_of number o b x).value ≡ true
  unfolding leg_of
  leg_finite_lem h = hit_finite_lem raw (done raw) (leg_finite raw.value) refl refl h

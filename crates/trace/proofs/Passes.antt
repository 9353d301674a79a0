-- A surface's passes, one by one, end as its own rule says. Assumes nothing.
use Rattle.std.specs.Prelude.{if◌then◌else◌}
use Prim.Native.Nat.{ℕ, zero, suc, ◌+◌}
use mathlib.Core.Path.{◌≡◌, refl, sym, ◌∙◌, ap, subst}
use mathlib.Core.Bool.{Bool, true, false, false≢true}
use native.Mathlib.Omega.{arith}
use native.Mathlib.Numerals.{add-one}
use lib.Ieee.{Float}
use Rattle.surfaces.specs.Refusal.{Told, Ended, ended, done, stops}
use Rattle.surfaces.specs.Newton.{going}
use Rattle.surfaces.specs.Surface.{pass_answer, surface_end, limit_of, chain_by, chain}
use Rattle.surfaces.specs.declared.types.Ray.{Ray}
use Rattle.surfaces.specs.declared.types.Landing.{Landing}
use Rattle.surfaces.specs.declared.surface.Surface.{Surface}
use Rattle.surfaces.proofs.Chains.{chain_ends}
use Rattle.surfaces.proofs.Stops.{pass_stops}

-- after `made` passes, at t, so many more end the surface, and the last tells x
pub data Passes (s : Surface) (ray : Ray) : ℕ → Float → ℕ → Told Landing → Type 0 where
  last : {made : ℕ} {t : Float} → going (pass_answer s ray made t) ≡ false
      → Passes s ray made t 1 (pass_answer s ray made t)
  goes : {made : ℕ} {t : Float} {more : ℕ} {x : Told Landing} → going (pass_answer s ray made t) ≡ true
      → Passes s ray (made + 1) (pass_answer s ray made t).value.t more x → Passes s ray made t (suc more) x

module _ (s : Surface) (ray : Ray) where
  abbrev Ends : ℕ → Float → Ended → Type 0
  Ends made t e = (more : ℕ) × Passes s ray made t more e.answer × (e.passes ≡ made + more)

  -- where a pass goes on to
  abbrev next_t : ℕ → Float → Float
  next_t made t = (pass_answer s ray made t).value.t

  -- a chain of n passes more, by whether the first goes on
  abbrev chained : ℕ → ℕ → Float → Bool → Ended
  chained n made t g =
      if g then chain s ray n (suc made) (next_t made t) else ended (pass_answer s ray made t) (suc made)

  next : (made : ℕ) (t : Float) (e : Ended) → going (pass_answer s ray made t) ≡ true
      → Ends (suc made) (next_t made t) e → Ends made t e
  next made t e g (more, p, h) =
      let p' = subst (λ (n : ℕ). Passes s ray n (next_t made t) more e.answer) (sym (add-one made)) p in
      (suc more, goes g p', h ∙ omega arith)

  -- after a pass, by whether it goes on
  turn : (n made : ℕ) (t : Float) (g : Bool) → going (pass_answer s ray made t) ≡ g
      → (g ≡ true → Ends (suc made) (next_t made t) (chain s ray n (suc made) (next_t made t)))
      → Ends made t (chained n made t g)
  turn n made t true e rest = next made t _ e (rest refl)
  turn n made t false e rest = (1, last e, omega arith)

  from_chain : (n made : ℕ) (t : Float) → going (chain s ray n made t).answer ≡ false
      → Ends made t (chain s ray n made t)
  unfolding chain_by pass_answer
  from_chain zero made t h = absurd (false≢true (sym h))
  from_chain (suc n) made t h =
      turn n made t (going (pass_answer s ray made t)) refl
      (λ g. from_chain n (suc made) (next_t made t) (ap (λ (g : Bool). going (chained n made t g).answer) (sym g) ∙ h))

  pub passes : (t : Float) → Passes s ray 0 t (surface_end s ray).passes (surface_end s ray).answer
  passes t =
      let c = chain_ends s ray t in
      let stops = ap (λ (x : Ended). going x.answer) c.same ∙ c.ends in
      let e = subst (λ (x : Ended). Ends 0 t x) c.same (from_chain (limit_of s.kind) 0 t stops) in
      let h : e.0 ≡ (surface_end s ray).passes = omega (arith, e.2) in
      subst (λ (n : ℕ). Passes s ray 0 t n (surface_end s ray).answer) h e.1

-- what ends a surface is a hit, or a number that stops the trace
pub passes_stop : {s : Surface} {ray : Ray} {made : ℕ} {t : Float} {more : ℕ} {x : Told Landing}
    → Passes s ray made t more x → done x ≡ false → stops x.line.number ≡ true
passes_stop {s} {ray} {made} {t} (last e) d = pass_stops s ray made t e d
passes_stop (goes e p) d = passes_stop p d

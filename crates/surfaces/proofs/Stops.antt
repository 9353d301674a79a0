-- A pass that goes on is not the last, and one that does not go on, or a turn, hits or stops a trace. Assumes nothing.
use Rattle.surfaces.proofs.Ways.{family_way}
use Prim.Native.Nat.{ℕ, ◌+◌, ◌<◌}
use mathlib.Core.Path.{◌≡◌, refl, sym, ◌∙◌}
use mathlib.Core.Bool.{true, false, not, false≢true}
use mathlib.Core.List.{[], ◌∷◌}
use native.Mathlib.Omega.{arith}
use borrow.Author.Tests.{not-true}
use lib.Dec.{eqb}
use lib.Ieee.{Float}
use Rattle.surfaces.specs.Refusal.{done, stops}
use Rattle.surfaces.specs.Conic.{conic_crossing}
use Rattle.surfaces.specs.Newton.{going}
use Rattle.surfaces.specs.Surface.{Way, whole, passes, way_of, pass_by, limit_by, pass_answer, limit_of, turn_answer}
use Rattle.numbers.specs.Arithmetic.{one_of}
use Rattle.surfaces.specs.Demand1.{Only}
use Rattle.surfaces.specs.declared.types.Vec3.{Vec3}
use Rattle.surfaces.specs.declared.types.Ray.{Ray}
use Rattle.surfaces.specs.declared.conic.ConicSurface.{ConicSurface}
use Rattle.surfaces.specs.declared.surface.Surface.{Surface}
use Rattle.surfaces.specs.declared.surface.Boundary.{Boundary}
use Rattle.surfaces.proofs.Ways.{kind_limit}
use Rattle.surfaces.proofs.Passes.{more}
use Rattle.numbers.proofs.Lists.{each}
use Rattle.surfaces.proofs.Demand1.{crossed, by_way, demand_1}

-- a conic is met in one pass
pub at_once : (ray : Ray) (s : ConicSurface) → going (conic_crossing ray s) ≡ false
at_once ray s = not-true _ (crossed ray s (λ n. not (eqb n 0)) (record { by_all = refl })).told

module _ (s : Surface) (ray : Ray) (made : ℕ) (t : Float) where
  below : (w : Way) → going (pass_by w s.vertex ray made t) ≡ true → made + 1 < limit_by w
  below (whole q) g = absurd (false≢true (sym (at_once ray q) ∙ g))
  below (passes q) g = omega (arith, more q s.vertex ray made t g)

  -- a pass that neither goes on nor hits has a number that stops
  pub pass_stops : going (pass_answer s ray made t) ≡ false → done (pass_answer s ray made t) ≡ false →
      stops (pass_answer s ray made t).line.number ≡ true
  unfolding pass_answer one_of stops
  pass_stops g d =
      each stops (4 ∷ 6 ∷ 7 ∷ []) (pass_answer s ray made t).line.number refl
      (rw (g, d) at (by_way s.vertex ray made t (way_of s.kind s)).told)

  -- a pass that goes on is not the last
  pub pass_limit : going (pass_answer s ray made t) ≡ true → made + 1 < limit_of s.kind
  unfolding pass_answer
  pass_limit g = rw (kind_limit s.kind s) (below (way_of s.kind s) g)

-- a turn that does not lead on has a number that stops
pub turn_stops : (s : Surface) (i p : Vec3) (b : Boundary) → done (turn_answer s i p b) ≡ false →
    stops (turn_answer s i p b).line.number ≡ true
unfolding Only one_of stops
turn_stops s i p b d =
    each stops (2 ∷ 4 ∷ 5 ∷ 8 ∷ []) (turn_answer s i p b).line.number refl (rw d at (demand_1.turn s i p b))

pub ruleset chaining = (family_way, at_once)

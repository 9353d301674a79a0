-- A chain of passes ends as the kind's own rule says. Assumes nothing.
use Rattle.std.specs.Prelude.{if◌then◌else◌}
use Prim.Native.Nat.{ℕ, zero, suc, ◌+◌, ◌<◌, ◌≤◌}
use mathlib.Core.Path.{◌≡◌, refl, sym, ap, ◌∙◌}
use mathlib.Core.Bool.{Bool, true, false}
use native.Mathlib.Omega.{arith}
use lib.Ieee.{Float}
use Rattle.surfaces.specs.Refusal.{Told, Ended, ended}
use Rattle.surfaces.specs.Conic.{parallel}
use Rattle.surfaces.specs.Newton.{Shape, going, pass_at, vertex_plane, passes_from, newton_end, limited_pass}
use Rattle.surfaces.specs.Surface.{Way, whole, passes, way_of, limit_by, surface_end, bare, limit_of, chain_by}
use Rattle.surfaces.specs.Surface.{ChainEnds}
use Rattle.surfaces.specs.Parts.{family_of}
use Rattle.surfaces.specs.declared.types.Ray.{Ray}
use Rattle.surfaces.specs.declared.types.Landing.{Landing}
use Rattle.surfaces.specs.declared.surface.Kind.{Kind}
use Rattle.surfaces.specs.declared.surface.Surface.{Surface}
use Rattle.numbers.proofs.Choice.{either}
use Rattle.surfaces.proofs.Ways.{family_way, kind_limit, Bounds, family_bounds}
use Rattle.surfaces.proofs.Passes.{on_from, next, step, more}
use Rattle.surfaces.proofs.Stops.{at_once}

pub limit_bounds : (k : Kind) → Bounds (limit_of k)
limit_bounds k = rw (kind_limit k (bare k), family_way k (bare k)) (family_bounds (family_of k) (bare k))

-- what does not go on
abbrev Over : Told Landing → Type 0
Over x = going x ≡ false

-- how Newton's method ends
abbrev Bounded : Ended → ℕ → Type 0
Bounded e n = Over e.answer × (e.passes ≤ n)

module _ (q : Shape) (vertex : Float) (ray : Ray) where
  turn_bounded : (x : Told Landing) (g : Bool) (left made : ℕ) → going x ≡ g →
      Bounded (passes_from q vertex ray left (suc made) x.value.t) (suc made + left) →
      Bounded (if g then passes_from q vertex ray left (suc made) x.value.t else ended x (suc made))
      (made + suc left)
  turn_bounded x true left made e b = (b.0, omega (arith, b.1))
  turn_bounded x false left made e b = (e, omega arith)

  passes_bounded : (left made : ℕ) (t : Float) → Bounded (passes_from q vertex ray left made t) (made + left)
  unfolding passes_from
  passes_bounded zero made t = (refl, omega arith)
  passes_bounded (suc left) made t =
      turn_bounded (pass_at q vertex ray t) _ left made refl (passes_bounded left (suc made) _)

  pub end_bounded : 0 < q.limit → Bounded (newton_end q vertex ray) q.limit
  unfolding newton_end
  end_bounded h =
      let b = passes_bounded q.limit 0 (vertex_plane vertex ray) in
      either (λ e. Bounded e q.limit) (parallel ray) _ _ (refl, omega arith) (b.0, omega (arith, b.1))

  module _ (n made : ℕ) (t : Float) (x : Told Landing) (e : x ≡ limited_pass q vertex ray made t) where
    pub chain_on : going x ≡ true →
        chain_by (passes q) vertex ray (suc n) made t ≡ chain_by (passes q) vertex ray n (suc made) x.value.t
    unfolding chain_by
    chain_on g = rw (← e, g)

    pub chain_off : going x ≡ false → chain_by (passes q) vertex ray (suc n) made t ≡ ended x (suc made)
    unfolding chain_by
    chain_off g = rw (← e, g)

  chosen : (x : Told Landing) (g : Bool) (n made : ℕ) → going x ≡ g →
      (g ≡ true →
      chain_by (passes q) vertex ray n (suc made) x.value.t ≡ on_from q vertex ray (suc made) x.value.t) →
      (if going x then chain_by (passes q) vertex ray n (suc made) x.value.t else ended x (suc made)) ≡
      next q vertex ray made x
  chosen x true n made e h = rw (e, h refl)
  chosen x false n made e h = rw e

  from_here : (n made : ℕ) (t : Float) → made < q.limit → q.limit ≡ n + made →
      chain_by (passes q) vertex ray n made t ≡ on_from q vertex ray made t
  unfolding chain_by
  from_here zero made t h k = absurd (omega arith)
  from_here (suc n) made t h k =
      let x = limited_pass q vertex ray made t in
      chosen x _ n made refl
      (λ g. from_here n (suc made) x.value.t (more q vertex ray made t g) (omega arith))
      ∙ sym (step q vertex ray made t h)

  -- as many passes as are allowed are Newton's method
  pub newton_chain : 0 < q.limit → (t : Float) →
      chain_by (passes q) vertex ray q.limit 0 t ≡ newton_end q vertex ray
  newton_chain h t = from_here q.limit 0 t h (omega arith)

by_way : (w : Way) (s : Surface) (ray : Ray) (t : Float) → way_of s.kind s ≡ w → ChainEnds s ray t
unfolding surface_end chain_by
by_way (whole q) s ray t e =
    let x = at_once ray q in
    let l = kind_limit s.kind s ∙ ap limit_by e in
    record { same = rw (l, e, x); ends = rw (e, x); within = rw (l, e) (omega arith) }
by_way (passes q) s ray t e =
    let l = kind_limit s.kind s ∙ ap limit_by e in
    let h : 0 < q.limit = omega (arith, (limit_bounds s.kind).0, l) in
    let b = end_bounded q s.vertex ray h in
    record {
      same = rw (l, e) (newton_chain q s.vertex ray h t);
      ends = rw e b.0;
      within = rw (l, e) b.1;
    }

pub chain_ends : (s : Surface) (ray : Ray) (t : Float) → ChainEnds s ray t
chain_ends s ray t = by_way (way_of s.kind s) s ray t refl

-- One pass after another, each limited, is Newton's method from the start. Assumes nothing.
use Rattle.std.specs.Prelude.{if◌then◌else◌}
use Prim.Native.Nat.{ℕ, zero, suc, ◌+◌, ◌-◌, ◌<◌}
use mathlib.Core.Path.{◌≡◌, refl, sym, ap, ◌∙◌}
use mathlib.Core.Bool.{Bool, true, false, ◌&&◌, false≢true}
use native.Mathlib.Omega.{arith}
use lib.Dec.{leb, eqb-suc-zero}
use borrow.Author.Tests.{leb-false, le-leb, lt-leb}
use lib.Ieee.{Float}
use Rattle.surfaces.specs.Refusal.{Told, Ended, ended, no_crossing}
use Rattle.surfaces.specs.Conic.{parallel}
use Rattle.surfaces.specs.Newton.{Shape, going, pass_at, vertex_plane, passes_from, newton_end, next_pass, limited_pass}
use Rattle.surfaces.specs.Newton.{pass_start}
use Rattle.surfaces.specs.declared.types.Ray.{Ray}
use Rattle.surfaces.specs.declared.types.Landing.{Landing}

-- the limit's part of a pass that came to x
abbrev capped : ℕ → ℕ → Told Landing → Told Landing
capped limit made x = if going x && leb limit (made + 1) then no_crossing 6 else x

module _ (q : Shape) (vertex : Float) (ray : Ray) where
  -- what is to come after `made` passes, from t
  abbrev pub on_from : ℕ → Float → Ended
  on_from zero t = newton_end q vertex ray
  on_from (suc n) t = passes_from q vertex ray (q.limit - suc n) (suc n) t

  -- after a pass, by what it came to
  abbrev pub next : ℕ → Told Landing → Ended
  next made x =
      if going x then passes_from q vertex ray (q.limit - suc made) (suc made) x.value.t else ended x (suc made)

  turn : (made left : ℕ) (x : Told Landing) (g : Bool) → going x ≡ g → q.limit ≡ left + suc made →
      (if going x then passes_from q vertex ray left (suc made) x.value.t else ended x (suc made)) ≡
      next made (capped q.limit made x)
  unfolding passes_from
  turn made left x false e h = rw (e, e)
  turn made zero x true e h =
      let l : leb q.limit (made + 1) ≡ true = le-leb q.limit (made + 1) (omega arith) in rw (e, l)
  turn made (suc n) x true e h =
      let l : leb q.limit (made + 1) ≡ false = lt-leb q.limit (made + 1) (omega arith) in
      let d : q.limit - suc made ≡ suc n = omega arith in
      rw (e, l, e, d)

  begin : (b : Bool) (t : Float) → q.limit ≡ suc (q.limit - 1) →
      (if b then ended (no_crossing 6) 1 else passes_from q vertex ray q.limit 0 t) ≡
      next 0 (capped q.limit 0 (if b then no_crossing 6 else pass_at q vertex ray t))
  unfolding passes_from
  begin true t h = refl
  begin false t h =
      ap (λ n. passes_from q vertex ray n 0 t) h ∙ turn 0 (q.limit - 1) (pass_at q vertex ray t) _ refl (omega arith)

  pub step : (made : ℕ) (t : Float) → made < q.limit → on_from made t ≡ next made (limited_pass q vertex ray made t)
  unfolding newton_end limited_pass next_pass pass_start passes_from
  step zero t h = begin (parallel ray) (vertex_plane vertex ray) (omega arith)
  step (suc n) t h =
      let d : q.limit - suc n ≡ suc (q.limit - suc (suc n)) = omega arith in
      rw (d, eqb-suc-zero n) (turn (suc n) (q.limit - suc (suc n)) (pass_at q vertex ray t) _ refl (omega arith))

  last : (limit made : ℕ) (x : Told Landing) (g l : Bool) → going x ≡ g → leb limit (made + 1) ≡ l →
      going (capped limit made x) ≡ true → suc made < limit
  last limit made x g false e f h = let w : made + 1 < limit = leb-false limit (made + 1) f in omega arith
  last limit made x true true e f h =
      let k : going (capped limit made x) ≡ false = rw (e, f) in absurd (false≢true (sym k ∙ h))
  last limit made x false true e f h =
      let k : going (capped limit made x) ≡ false = rw (e, e) in absurd (false≢true (sym k ∙ h))

  -- a pass that leaves another to come is not the last one
  pub more : (made : ℕ) (t : Float) → going (limited_pass q vertex ray made t) ≡ true → suc made < q.limit
  unfolding limited_pass
  more made t h = last q.limit made (next_pass q vertex ray made t) _ _ refl refl h

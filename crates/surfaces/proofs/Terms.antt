-- What is left of a row of numbers at i: the one that stands there and the rest. Assumes nothing.
use Rattle.numbers.proofs.Literals.{literals}
use Rattle.std.specs.Prelude.{slice_get, ◌↔◌}
use Rattle.std.specs.List.{AllPass}
use Rattle.std.specs.Option.{unwrap_or}
use Prim.Native.Nat.{ℕ, zero, suc, ◌+◌, ◌<◌}
use mathlib.Core.Path.{◌≡◌, refl, sym}
use mathlib.Core.Bool.{Bool, true, false}
use mathlib.Core.List.{List, [], ◌∷◌}
use native.Mathlib.Omega.{arith}
use native.Mathlib.Numerals.{add-one}
use lib.IntN.{pos}
use lib.ListN.{length, drop, get_or}
use lib.Ieee.{Float, nan, binary64, of_int}
use lib.Ieee.Scale.{finite}
use Rattle.numbers.specs.Arithmetic.{◌+₆₄◌, ◌*₆₄◌, 0f, 2f}
use Rattle.surfaces.specs.Types.{every_finite}
use Rattle.surfaces.specs.Asphere.{power_sum_from, slope_sum_from, first_or0}
use Rattle.numbers.proofs.Choice.{both}
use Rattle.numbers.proofs.Lists.{next_element}

module _ (l : List Float) (i : ℕ) (here : i < length l) (sum p r2 : Float) where
  pub power_turn : power_sum_from sum (drop i l) p r2 ≡
      power_sum_from (sum +₆₄ get_or l i nan *₆₄ p) (drop (i + 1) l) (p *₆₄ r2) r2
  unfolding power_sum_from
  power_turn = rw (next_element l i nan)

  pub slope_turn : (e : Float) → slope_sum_from i sum (drop i l) e p r2 ≡
      slope_sum_from (i + 1) (sum +₆₄ (2f *₆₄ of_int binary64 (pos i) +₆₄ e) *₆₄ get_or l i nan *₆₄ p) (drop (i + 1) l)
      e (p *₆₄ r2) r2
  unfolding slope_sum_from
  slope_turn e = rw (next_element l i nan, add-one)

-- the first of a row, or 0
pub first_lem : (l : List Float) → unwrap_or (slice_get l 0) 0f ≡ first_or0 l
first_lem [] = refl
first_lem (a ∷ l) = refl

-- a row is finite where each of its numbers is
from_each : (l : List Float) → AllPass finite l → every_finite l ≡ true
unfolding every_finite
from_each [] h = refl
from_each (x ∷ l) h = rw (h 0 x (omega arith)) (from_each l (λ k d b. h (suc k) d (omega arith)))

to_each : (l : List Float) → every_finite l ≡ true → AllPass finite l
unfolding every_finite
to_each [] h k d b = absurd (omega arith)
to_each (x ∷ l) h zero d b = (both (finite x) _ h).0
to_each (x ∷ l) h (suc k) d b = to_each l (both (finite x) _ h).1 k d (omega arith)

alike : (a b : Bool) → (a ≡ true → b ≡ true) → (b ≡ true → a ≡ true) → a ≡ b
alike true b f g = sym (f refl)
alike false true f g = g refl
alike false false f g = refl

pub every_finite_lem : (b : Bool) (l : List Float) → (b ≡ true ↔ AllPass finite l) → b ≡ every_finite l
every_finite_lem b l h = alike b (every_finite l) (λ e. from_each l (h.0 e)) (λ e. h.1 (to_each l e))

pub ruleset sums = (literals, power_turn, slope_turn, first_lem)

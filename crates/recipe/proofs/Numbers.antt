-- Numbers one after another: the one at a place and those behind it, or those so far and one more. Assumes nothing.
use Prim.Native.Nat.{ℕ, zero, suc, ◌+◌, ◌-◌, ◌*◌, ◌≤◌, ◌<◌}
use native.Mathlib.Nat.{not-suc-le-zero, add-zero}
use native.Mathlib.Numerals.{add-one}
use native.Mathlib.Omega.{arith}
use mathlib.Core.Path.{◌≡◌, refl, sym, ◌∙◌, ap}
use mathlib.Core.Bool.{Bool, true, false, not}
use mathlib.Core.List.{List, [], ◌∷◌, ◌++◌}
use lib.ListN.{length, set, replicate}
use lib.Seq.{set_at, append_snoc}
use lib.Ieee.{Float}
use lib.Ieee.Scale.{finite}
use Rattle.numbers.specs.Arithmetic.{0f}
use Rattle.surfaces.specs.Types.{every_finite}
use Rattle.recipe.specs.Endian.{number_at, numbers_at}
use Rattle.recipe.specs.Record.{coefficients_at}
use Rattle.numbers.proofs.Literals.{literals}
use Rattle.numbers.proofs.Choice.{both, goes_on, ends_there}

-- those from the i-th on, where it is finite, where it is not, and where there are none
module _ (b : List ℕ) (at n i : ℕ) where
  abbrev rest : ℕ → Bool
  rest k = every_finite (numbers_at b (at + 8 * k) (n - k))

  pub finite_turn : i < n → not (finite (number_at b (at + 8 * i))) ≡ false → rest i ≡ rest (i + 1)
  unfolding every_finite numbers_at
  finite_turn h e =
      let p : n - i ≡ suc (n - (i + 1)) = omega arith in
      let q : at + 8 * (i + 1) ≡ at + 8 * i + 8 = omega arith in
      rw (p, q) (goes_on (finite (number_at b (at + 8 * i))) _ e)

  pub finite_stop : i < n → not (finite (number_at b (at + 8 * i))) ≡ true → rest i ≡ false
  unfolding every_finite numbers_at
  finite_stop h e =
      let p : n - i ≡ suc (n - (i + 1)) = omega arith in
      rw p (ends_there (finite (number_at b (at + 8 * i))) _ e)

  pub finite_end : n ≤ i → rest i ≡ true
  unfolding every_finite numbers_at
  finite_end h = let e : n - i ≡ 0 = omega arith in rw e

-- a loop over them: a turn, and both ways out
pub ruleset finite_so_far = (finite_turn, finite_stop, finite_end)

pub finite_at : (b : List ℕ) (at n i : ℕ) → i < n → every_finite (numbers_at b at n) ≡ true
    → finite (number_at b (at + 8 * i)) ≡ true
unfolding every_finite numbers_at
finite_at b at zero i h e = absurd (not-suc-le-zero h)
finite_at b at (suc n) zero h e = rw (add-zero at) (both (finite (number_at b at)) _ e).0
finite_at b at (suc n) (suc i) h e =
    let p : at + 8 * suc i ≡ at + 8 + 8 * i = omega arith in
    rw p (finite_at b (at + 8) n i (omega arith) (both (finite (number_at b at)) _ e).1)

length_numbers : (b : List ℕ) (at n : ℕ) → length (numbers_at b at n) ≡ n
unfolding numbers_at
length_numbers b at zero = refl
length_numbers b at (suc n) = ap suc (length_numbers b (at + 8) n)

numbers_snoc : (b : List ℕ) (at n : ℕ) → numbers_at b at (suc n) ≡ numbers_at b at n ++ (number_at b (at + 8 * n) ∷ [])
unfolding numbers_at
numbers_snoc b at zero = rw (add-zero at)
numbers_snoc b at (suc n) =
    let e : at + 8 + 8 * n ≡ at + 8 * suc n = omega arith in
    ap (λ (l : List Float). number_at b at ∷ l) (rw (numbers_snoc b (at + 8) n, e))

-- one more coefficient
pub term_more : (b : List ℕ) (at i : ℕ) (l : List Float) → i < 8 → l ≡ (coefficients_at b at i).values
    → set l i (number_at b (at + 8 * i)) ≡ (coefficients_at b at (i + 1)).values
unfolding coefficients_at
term_more b at i l h e =
    let d : 8 - i ≡ suc (8 - (i + 1)) = omega arith in
    let x = number_at b (at + 8 * i) in
    let rest = replicate (8 - (i + 1)) 0f in
    ap (λ (k : List Float). set k i x) (e ∙ ap (λ (k : ℕ). numbers_at b at i ++ replicate k 0f) d)
    ∙ set_at (numbers_at b at i) 0f rest x i (length_numbers b at i)
    ∙ sym (append_snoc (numbers_at b at i) x rest)
    ∙ rw (add-one, numbers_snoc)

pub none_read : (b : List ℕ) (at : ℕ) → replicate 8 0f ≡ (coefficients_at b at 0).values
unfolding coefficients_at numbers_at
none_read b at = refl

pub all_read : (b : List ℕ) (at n : ℕ) (l : List Float) → l ≡ (coefficients_at b at n).values
    → record { count = n; values = l } ≡ coefficients_at b at n
unfolding coefficients_at
all_read b at n l h = rw h

pub ruleset coefficients = (literals, none_read, term_more, all_read)

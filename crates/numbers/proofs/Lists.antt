-- Lists, at any type of element where it does not matter. Assumes nothing.
use Rattle.std.proofs.Common.{◌≡◌, ℕ, ◌+◌, ◌<◌, Bool, true, false, ◌&&◌, ◌||◌, eqb, List, [], ◌∷◌, length, get_or, drop}
use Rattle.std.proofs.Common.{refl, add-one, drop-cons, eqb-true}
use mathlib.Core.Bool.{false≢true}
use Rattle.numbers.specs.Arithmetic.{one_of}
use Rattle.numbers.proofs.Choice.{both}

-- what is left from a place on is the element there, and what is left from the next place on
pub next_element : {A : Type 0} (l : List A) (i : ℕ) (d : A) → i < length l → drop i l ≡ get_or l i d ∷ drop (i + 1) l
next_element l i d h = rw (drop-cons l i d h, add-one i)

-- whether all numbers of a list pass a test
abbrev pub every : (ℕ → Bool) → List ℕ → Bool
every test [] = true
every test (n ∷ l) = test n && every test l

-- what all numbers of a list pass, one of them passes
pub each : (test : ℕ → Bool) (l : List ℕ) (n : ℕ) → every test l ≡ true → one_of l n ≡ true → test n ≡ true
unfolding one_of
each test [] n a h = absurd (false≢true h)
each test (m ∷ l) n a h =
    let (here, there) = both (test m) (every test l) a in
    by (eqb n m) refl h here (λ r. each test l n there r)
  where
    by : (d : Bool) → eqb n m ≡ d → (d || one_of l n) ≡ true → test m ≡ true →
        (one_of l n ≡ true → test n ≡ true) → test n ≡ true
    by true e h here next = rw (eqb-true n m e) here
    by false e h here next = next h

-- A count that was read keeps to its bound. Assumes nothing.
use Rattle.std.proofs.Common.{◌≡◌, ℕ, ◌+◌, ◌*◌, ◌≤◌, Bool, true, false, List, [], ◌∷◌, length, eqb, leb, ltb}
use Rattle.std.proofs.Common.{Option, Some, None, IfSome, option_and_then, if◌then◌else◌, refl, subst, arith, ltb-false}
use Rattle.lines.specs.Digits.{digit_value, joined, spelled, read_count}

unless : (most : ℕ) (b : Bool) (y : Option ℕ) → (b ≡ false → IfSome y (λ n. n ≤ most)) →
    IfSome (if b then None else y) (λ n. n ≤ most)
unless most true y h = tt
unless most false y h = h refl

after : (most : ℕ) (y : Option ℕ) (f : ℕ → Option ℕ) → ((n : ℕ) → y ≡ Some n → IfSome (f n) (λ m. m ≤ most)) →
    IfSome (option_and_then f y) (λ m. m ≤ most)
after most None f h = tt
after most (Some n) f h = h n refl

joined_within : (base most n b : ℕ) → IfSome (joined base most n b) (λ m. m ≤ most)
unfolding joined
joined_within base most n b =
    after most (digit_value b) _ (λ value _.
    let m = n * base + value in
    unless most (leb base value) (if ltb most m then None else Some m)
    (λ _. unless most (ltb most m) (Some m) (λ e. ltb-false most m e)))

spelled_within : (base most n : ℕ) (word : List ℕ) → n ≤ most → IfSome (spelled base most n word) (λ m. m ≤ most)
unfolding spelled
spelled_within base most n [] h = h
spelled_within base most n (b ∷ rest) h =
    after most (joined base most n b) (λ m. spelled base most m rest)
    (λ m e. spelled_within base most m rest (subst (λ y. IfSome y (λ k. k ≤ most)) e (joined_within base most n b)))

pub read_count_within : (most : ℕ) (word : List ℕ) → IfSome (read_count most word) (λ n. n ≤ most)
unfolding read_count
read_count_within most word =
    unless most (eqb (length word) 0) (spelled 10 most 0 word) (λ _. spelled_within 10 most 0 word (omega arith))

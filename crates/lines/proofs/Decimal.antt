-- The decimal text is the one that `io::decimal` promises. Assumes nothing.
use Rattle.std.proofs.Common.{◌≡◌, ℕ, zero, suc, ◌*◌, ◌/◌, ◌%◌, ◌^◌, ◌≤◌, ◌<◌, ◌-◌, arith, lt-ltb, le-ltb}
use native.Mathlib.Nat.{mod-eq_of_lt, lt_of_not-le, one-le-pow, pow-le-pow_right, pow-succ'}
use lib.Dec.{lit<}
use Rattle.io.specs.Digits.{last_digits, IsDigitCount}
use Rattle.lines.specs.Output.{decimal_text}

-- a number of j + 1 digits
spelled : (k j n : ℕ) → j < k → n < 10 ^ suc j → (0 < j → 10 ^ j ≤ n) → decimal_text k n ≡ last_digits 10 (suc j) n
unfolding decimal_text
spelled zero j n h a b = absurd (omega arith)
spelled (suc k) zero n h a b =
    let small : n < 10 = a in
    rw (lt-ltb n 10 small, mod-eq_of_lt small, lt-ltb n 10 small)
spelled (suc k) (suc j) n h a b =
    let e : 10 ^ suc j ≡ 10 * 10 ^ j = pow-succ' 10 j in
    let e' : 10 ^ suc (suc j) ≡ 10 * 10 ^ suc j = pow-succ' 10 (suc j) in
    let least : 10 ^ suc j ≤ n = b (omega arith) in
    let large : 10 ≤ n = omega (arith, one-le-pow j 10 (lit< tt)) in
    let below : n / 10 < 10 ^ suc j = omega arith in
    let above : 10 ^ j ≤ n / 10 = omega arith in
    rw (le-ltb n 10 large, lt-ltb (n % 10) 10 (omega arith), spelled k j (n / 10) (omega arith) below (λ _. above))

-- it is 20 of them at most in 64 bits
short : (j n : ℕ) → n < 2 ^ 64 → (0 < j → 10 ^ j ≤ n) → j < 20
short j n h b = lt_of_not-le (λ p. omega (arith, b (omega arith), pow-le-pow_right {n = 10} (lit< tt) p))

pub decimal_is : (n k : ℕ) → n < 2 ^ 64 → IsDigitCount 10 1 n k → decimal_text 20 n ≡ last_digits 10 k n
decimal_is n zero h f = absurd (omega arith)
decimal_is n (suc j) h f =
    let e : suc j - 1 ≡ j = omega arith in
    let b : 0 < j → 10 ^ j ≤ n = λ p. rw e at (f.2 (omega arith)) in
    spelled 20 j n (short j n h b) f.1 b

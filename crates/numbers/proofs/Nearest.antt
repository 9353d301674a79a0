-- What `root` says, proved: `floor_is` of `Roots.antt`, and here that `units` is exact (`units_exact`), that no
-- binary64 lies nearer to √x than `root x` (`none_nearer`), that no tie arises (`no_tie`), that only one value is
-- nearest (`only_one`) and how near to x the square of `root x` is (`root_squared`). Assumes nothing.
use Rattle.std.proofs.Common.{◌≡◌, ℕ, zero, suc, ◌+◌, ◌-◌, ◌*◌, ◌/◌, ◌%◌, ◌^◌, ◌<◌, ◌≤◌, true, false, ◌&&◌, eqb, ltb}
use Rattle.std.proofs.Common.{leb, ◌⊎◌, ℤ, pos, negsuc, sym, refl, ap, ◌∙◌, subst, inl, inr, ⊎_elim, lt_of_lt_of_le}
use Rattle.std.proofs.Common.{le_of_lt, mul-le-mul_right, mul-le-mul, add_comm, mul-lt-mul_of_pos_right, mul-pos}
use Rattle.std.proofs.Common.{lt_of_not-le, zero-mul, mul-one, ne_of_lt, not-le_of_lt, arith, ltb→lt, leb→le, pow_pos}
use Rattle.std.proofs.Common.{pow_mono, pow-add}
use native.Mathlib.Decide.{dec_le}
use lib.Pow.{pow-lt}
use lib.Ieee.{Float, nan, inf, fin, binary64, up, down, size, fits, odd, of_bits, to_bits}
use lib.Ieee.Bits.{of_bits-to_bits, of_bits-fits}
use lib.Ieee.Fits.{and_l, and_r}
use lib.Ieee.Positive.{positive-finite, positive_of_value}
use lib.Ieee.Exact.{HasValue, odd_sign}
use Rattle.numbers.specs.Basic.{negative}
use Rattle.numbers.specs.Root.{units, root, Number, AboveZero, root_units, twice_root², twice_midpoint², UnitsExact}
use Rattle.numbers.specs.Root.{NoneNearer, NoTie, OnlyOne}
use Rattle.numbers.specs.Parts.{Near, pattern_units}
use Rattle.numbers.proofs.Patterns.{pattern}
use Rattle.numbers.proofs.Roots.{before, nearest_of, long, short}
use Rattle.numbers.proofs.Scale.{Scale, scale, normal_digits, root_odd}
use Rattle.numbers.proofs.Values.{join, units_of, units_pattern, bits_lt, bits_pos, moved}

-- ---- every value of the format is a number below 2 ^ 53 times a power of two, in units

back : (a l : ℕ) → 2 ^ a ≤ 2 ^ l → a ≤ l
back a l h = le_of_not (λ (g : suc l ≤ a). not-le_of_lt (pow-lt g) h)
  where
    le_of_not : (suc l ≤ a → ⊥) → a ≤ l
    le_of_not f = let g = lt_of_not-le f in omega arith

regroup : (m P a b : ℕ) → P ≡ a * b → m * 1 * P ≡ m * a * b
regroup m P a b e = omega (arith, ap (λ (y : ℕ). m * y) e)

shift : (m a b c : ℕ) → a * b ≡ c → m * a * b ≡ m * c
shift m a b c e = omega (arith, ap (λ (y : ℕ). m * y) e)

place : (m : ℕ) (e : ℤ) → down e ≤ 2 ^ 1074 → (j : ℕ) × (m * up e * 2 ^ 1074 ≡ m * 2 ^ j * down e)
place m (pos a) h =
    let j = a + 1074 in
    (j, shift m (2 ^ a) (2 ^ 1074) (2 ^ j) (sym (pow-add 2 a 1074)) ∙ sym (mul-one (m * 2 ^ j)))
place m (negsuc a) h =
    let l : suc a ≤ 1074 = back (suc a) 1074 h in
    let j = 1074 - suc a in
    (j, regroup m (2 ^ 1074) (2 ^ j) (2 ^ suc a) (join j (suc a) 1074 (omega arith)))

pub split : (x : Float) → Number x → (m : ℕ) × (j : ℕ) × (m < 2 ^ 53) × HasValue x (negative x) (m * 2 ^ j) (2 ^ 1074)
unfolding fits negative
split nan (h, f) = absurd f
split (inf s) (h, f) = absurd f
split (fin s zero e) (h, f) = (0, 0, omega arith, (refl, simp zero-mul))
split (fin s (suc m) e) (h, f) =
    let A = eqb (suc m % 2) 1 in
    let B = ltb (suc m) (2 ^ 53) in
    let C = leb (down e) (2 ^ 1074) in
    let ABC = and_l (A && B && C) (ltb (suc m * up e) (2 ^ 1024 * down e)) h in
    let p = place (suc m) e (leb→le (down e) (2 ^ 1074) (and_r (A && B) C ABC)) in
    (suc m, p.0, ltb→lt (suc m) (2 ^ 53) (and_r A B (and_l (A && B) C ABC)), (refl, p.1))

pub units_split : (x : Float) (h : Number x) → units x ≡ (split x h).0 * 2 ^ (split x h).1
units_split x h = units_of x (negative x) _ (split x h).3

pub units_exact : UnitsExact
units_exact x h = rw (units_split x h) (split x h).3

-- ---- no value of the format lies between o * 2 ^ k and (o + 1) * 2 ^ k, for an o of 53 digits

gap : (o k m j : ℕ) → 2 ^ 52 ≤ o → m < 2 ^ 53 → (m * 2 ^ j ≤ o * 2 ^ k) ⊎ ((o + 1) * 2 ^ k ≤ m * 2 ^ j)
gap o k m j h l = go (dec_le k j)
  where
    far : (w : ℕ) → w * 2 ^ k ≡ m * 2 ^ j → Dec (w ≤ o) → (m * 2 ^ j ≤ o * 2 ^ k) ⊎ ((o + 1) * 2 ^ k ≤ m * 2 ^ j)
    far w e (yes g) = inl (rw e at (mul-le-mul_right (2 ^ k) g))
    far w e (no g) = inr (rw e at (mul-le-mul_right (2 ^ k) (next (lt_of_not-le g))))
      where
        next : o < w → o + 1 ≤ w
        next t = omega arith

    go : Dec (k ≤ j) → (m * 2 ^ j ≤ o * 2 ^ k) ⊎ ((o + 1) * 2 ^ k ≤ m * 2 ^ j)
    go (yes g) =
        let w = m * 2 ^ (j - k) in
        far w (shift m (2 ^ (j - k)) (2 ^ k) (2 ^ j) (sym (join (j - k) k j (omega arith)))) (dec_le w o)
    go (no g) =
        let t : suc j ≤ k = lt_of_not-le g in
        let a : 2 ^ 52 * 2 ^ suc j ≤ o * 2 ^ k = mul-le-mul h (pow_mono t) in
        let b : suc m * 2 ^ j ≤ 2 ^ 53 * 2 ^ j = mul-le-mul_right (2 ^ j) l in
        inl (omega arith)

-- ---- midpoints. N is n squares of u, and s is twice a midpoint

module _ (s c u n N : ℕ) (p : 0 < u) (e : N ≡ n * (u * u)) where
  over : c * u ≤ s → 4 * n < c * c → 4 * N < s * s
  over a b = omega (arith, mul-le-mul a a, mul-lt-mul_of_pos_right b (mul-pos p p))

  under : s ≤ c * u → c * c < 4 * n → s * s < 4 * N
  under a b = omega (arith, mul-le-mul a a, mul-lt-mul_of_pos_right b (mul-pos p p))

  under_edge : s < c * u → c * c ≤ 4 * n → s * s < 4 * N
  under_edge a b = omega (arith, mul-le-mul a a, mul-le-mul_right (u * u) b)

-- s and n differ by at most one part in 2 ^ 52 of s
abbrev Close : ℕ → ℕ → Type 0
Close s n = (s * 2 ^ 52 ≤ n * 2 ^ 52 + s) × (n * 2 ^ 52 ≤ s * 2 ^ 52 + s)

close : (q n u : ℕ) → Near n q → 2 ^ 52 ≤ q → Close (q * u * (q * u)) (n * (u * u))
close q n u (a, b) l =
    omega (arith, mul-le-mul_right (u * u) a, mul-le-mul_right (u * u) b, mul-le-mul_right (q * (u * u)) l)

-- `Nearest` with no tie, and how near the root's square is
record Nearer (x r : Float) : Type 0 where
  square : Close (units r * units r) (units x * 2 ^ 1074)
  above_zero : AboveZero r
  from_below : (y : Float) → Number y → units y < units r → twice_midpoint² y r < twice_root² x
  from_above : (y : Float) → Number y → units r < units y → twice_root² x < twice_midpoint² y r

-- r is q * 2 ^ k units, and q is nearest to the root of n squares of 2 ^ k
module _ (x r : Float) (n q k : ℕ) (h : Near n q) (lo : 2 ^ 104 ≤ n) (l : 2 ^ 52 ≤ q)
    (e : units x * 2 ^ 1074 ≡ n * 2 ^ (2 * k)) (v : units r ≡ q * 2 ^ k) where
  squares : units x * 2 ^ 1074 ≡ n * (2 ^ k * 2 ^ k)
  squares = e ∙ ap (λ (y : ℕ). n * y) (join k k (2 * k) (omega arith))

  beside : (o : ℕ) → 2 ^ 52 ≤ o → (y : Float) → Number y → (units y ≤ o * 2 ^ k) ⊎ ((o + 1) * 2 ^ k ≤ units y)
  beside o i y f = let p = split y f in rw (units_split y f) (gap o k p.0 p.1 i p.2)

  above : (y : Float) → Number y → units r < units y → twice_root² x < twice_midpoint² y r
  above y f d =
      let o = over (units y + units r) (2 * q + 1) (2 ^ k) n (units x * 2 ^ 1074) (pow_pos k) squares in
      ⊎_elim (λ z. absurd (omega arith)) (λ z. o (omega arith) (omega arith)) (beside q l y f)

  -- where √n lies below q: o is the number before q
  below_q : (o : ℕ) → q ≡ o + 1 → n < q * q → (y : Float) → Number y → units y < units r →
      twice_midpoint² y r < twice_root² x
  below_q o i b y f d =
      let s = before q o i in
      let w : q * 2 ^ k ≡ (o + 1) * 2 ^ k = ap (λ (t : ℕ). t * 2 ^ k) i in
      let j : 2 ^ 52 ≤ o = lt_of_not-le (λ (z : o ≤ 2 ^ 52 - 1). let z² = mul-le-mul z z in omega arith) in
      let t = under (units y + units r) (2 * o + 1) (2 ^ k) n (units x * 2 ^ 1074) (pow_pos k) squares in
      ⊎_elim (λ z. t (omega arith) (omega arith)) (λ z. absurd (omega arith)) (beside o j y f)

  below : Dec (q * q ≤ n) → (y : Float) → Number y → units y < units r → twice_midpoint² y r < twice_root² x
  below (yes b) y f d =
      let N = units x * 2 ^ 1074 in
      under_edge (units y + units r) (2 * q) (2 ^ k) n N (pow_pos k) squares (omega arith) (omega arith)
  below (no b) y f d = below_q (q - 1) (omega arith) (lt_of_not-le b) y f d

-- ---- the theorems

-- the number of n units whose digits are q
number : (q k : ℕ) → k < 2046 → 2 ^ 52 ≤ q → q < 2 ^ 53 →
    (units (odd 53 false q k 1074) ≡ q * 2 ^ k) × AboveZero (odd 53 false q k 1074)
number q k l lo hi =
    let v = odd_sign 53 false q k 1074 in
    let f = rw (pattern k q l lo hi).1 at (of_bits-fits binary64 (k * 2 ^ 52 + q)) in
    let p = mul-pos (lt_of_lt_of_le (pow_pos 52) lo) (pow_pos k) in
    let g = positive_of_value (odd 53 false q k 1074) (q * 2 ^ k) (2 ^ 1074) v p in
    (units_of (odd 53 false q k 1074) false (q * 2 ^ k) v, (f, g))

scaled : (x : Float) (b m k : ℕ) → units x ≡ pattern_units b → Scale b m k → Nearer x (root_units (units x))
scaled x b m k u s =
    let (q, h) = nearest_of (m * 2 ^ 52) (omega (arith, s.low)) in
    let a = long m q h s.low s.high in
    let (v, f) = number q k s.exponent a (short m q h s.low s.high) in
    let e = ap (λ (y : ℕ). y * 2 ^ 1074) u ∙ s.place in
    let n : 2 ^ 104 ≤ m * 2 ^ 52 = omega (arith, s.low) in
    subst (Nearer x) (root_odd m k q s.low s.high s.exponent h (units x) e)
    record {
      square = rw (v, squares x (odd 53 false q k 1074) (m * 2 ^ 52) q k h n a e v) (close q (m * 2 ^ 52) (2 ^ k) h a);
      above_zero = f;
      from_below = below x (odd 53 false q k 1074) (m * 2 ^ 52) q k h n a e v (dec_le (q * q) (m * 2 ^ 52));
      from_above = above x (odd 53 false q k 1074) (m * 2 ^ 52) q k h n a e v;
    }

nearer : (x : Float) → AboveZero x → Nearer x (root x)
unfolding root
nearer nan (h, p) = absurd p
nearer (inf s) (h, p) = absurd p
nearer (fin true m e) (h, p) = absurd p
nearer (fin false zero e) (h, p) = absurd p
nearer (fin false (suc m) e) (h, p) =
    go (to_bits binary64 x) (units_pattern x h (bits_lt m e h)) (bits_pos m e h) (bits_lt m e h)
  where
    x : Float
    x = fin false (suc m) e

    go : (b : ℕ) → units x ≡ pattern_units b → 0 < b → b < 0x7ff0_0000_0000_0000 → Nearer x (root_units (units x))
    go b u o t = elim (dec_le (2 ^ 52) b) [
      | yes l ↦ scaled x b _ _ u (scale (normal_digits b (b / 2 ^ 52 - 1) (omega arith) (omega arith)))
      | no l ↦ scaled x b _ _ u (scale (moved b o (lt_of_not-le l)).digits)
    ]

-- two that are not equal have one above the other
apart : (i j : ℕ) → (i ≡ j → ⊥) → (i < j) ⊎ (j < i)
apart i j h = go (dec_le (suc i) j)
  where
    go : Dec (i < j) → (i < j) ⊎ (j < i)
    go (yes l) = inl l
    go (no l) = inr (lt_of_not-le (λ (g : i ≤ j). h (same g (lt_of_not-le l))))
      where
        same : i ≤ j → j < suc i → i ≡ j
        same a b = omega arith

pub no_tie : NoTie
no_tie x y h f d t =
    let n = nearer x h in
    ⊎_elim
    (λ l. ne_of_lt (n.from_below y f l) t)
    (λ l. ne_of_lt (n.from_above y f l) (sym t))
    (apart (units y) (units (root x)) d)

pub root_squared : (x : Float) → AboveZero x → Close (units (root x) * units (root x)) (units x * 2 ^ 1074)
root_squared x h = (nearer x h).square

pub none_nearer : NoneNearer
none_nearer x h =
    let n = nearer x h in
    record {
      above_zero = n.above_zero;
      from_below = λ y f l. le_of_lt (n.from_below y f l);
      from_above = λ y f l. le_of_lt (n.from_above y f l);
      even_at_tie = λ y f d t. absurd (no_tie x y h f d t);
    }

-- a number above zero is its units
same_bits : (m n : ℕ) (e d : ℤ) → units (fin false m e) ≡ units (fin false n d) →
    to_bits binary64 (fin false m e) ≡ to_bits binary64 (fin false n d)
unfolding units to_bits
same_bits m n e d h = ap (λ (u : ℕ). 0 + (size u - 53) * 2 ^ 52 + u / 2 ^ (size u - 53)) h

pub same_units : (x y : Float) → AboveZero x → AboveZero y → units x ≡ units y → x ≡ y
same_units nan y h k u = elim h.1 [ ]
same_units (inf _) y h k u = elim h.1 [ ]
same_units (fin true m e) y h k u = elim h.1 [ ]
same_units (fin false m e) nan h k u = elim k.1 [ ]
same_units (fin false m e) (inf _) h k u = elim k.1 [ ]
same_units (fin false m e) (fin true n d) h k u = elim k.1 [ ]
same_units (fin false m e) (fin false n d) (h, p) (k, q) u =
    sym (of_bits-to_bits binary64 (fin false m e) h)
    ∙ ap (of_bits binary64) (same_bits m n e d u)
    ∙ of_bits-to_bits binary64 (fin false n d) k

pub only_one : OnlyOne
only_one x r h a = go (dec_le (units r) (units s)) (dec_le (units s) (units r))
  where
    s : Float
    s = root x

    b : Nearer x s
    b = nearer x h

    f : Number r
    f = (a.above_zero.0, positive-finite r a.above_zero.1)

    g : Number s
    g = (b.above_zero.0, positive-finite s b.above_zero.1)

    -- a midpoint is that of its two ends in either order
    swapped : twice_midpoint² r s ≡ twice_midpoint² s r
    swapped = ap (λ (t : ℕ). t * t) (add_comm (units r) (units s))

    go : Dec (units r ≤ units s) → Dec (units s ≤ units r) → r ≡ s
    go (yes i) (yes j) = same_units r s a.above_zero b.above_zero (omega arith)
    go (yes i) (no j) =
        let l = lt_of_not-le j in
        absurd (not-le_of_lt (b.from_below r f l) (rw swapped (a.from_above s g l)))
    go (no i) j =
        let l = lt_of_not-le i in
        absurd (not-le_of_lt (b.from_above r f l) (rw swapped (a.from_below s g l)))

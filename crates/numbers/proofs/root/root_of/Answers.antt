-- `numbers::root::root_of` meets its contract: each answer has the pattern of the root, as root_bits of `proofs/Scale`
-- tells it from the nearest whole number. Assumes nothing.
use Rattle.std.proofs.Common.{◌≡◌, ℕ, zero, suc, ◌+◌, ◌-◌, ◌*◌, ◌/◌, ◌%◌, ◌^◌, ◌<◌, ◌≤◌, not, T, sym, refl, ◌∙◌}
use Rattle.std.proofs.Common.{mod-eq_of_lt, arith}
use denote.Floats.{passes}
use lib.Ieee.{binary64, of_bits, to_bits, nan_bits}
use lib.Ieee.Bits.{of_bits-to_bits}
use Rattle.numbers.specs.Root.{root_units}
use Rattle.numbers.specs.Parts.{Near, radicand, exponent, form_radicand}
use Rattle.numbers.proofs.Excess.{close_above, close_below}
use Rattle.numbers.proofs.Roots.{short}
use Rattle.numbers.proofs.Signs.{positive, no_nan}
use Rattle.numbers.proofs.Scale.{Scale, normal_scale, root_bits, no_nan_bits}
use Rattle.numbers.proofs.root.root_of.Goals as goal
use Rattle.numbers.proofs.root.root_of.Goals.{After-wrapping_sub_u64-change}

-- twice x, or x itself
doubled : (x p q : ℕ) → p + q ≡ 1 → x * 2 ^ (11 - p) ≡ x * (q + 1) * 1024
doubled x zero q e = let o : q ≡ 1 = omega arith in rw o (omega arith)
doubled x (suc zero) q e = let o : q ≡ 0 = omega arith in rw o (omega arith)
doubled x (suc (suc p)) q e = omega arith

-- of two numbers in a row one is odd
next : (x : ℕ) → 0 < x → x % 2 + (x - 1) % 2 ≡ 1
next x h = omega arith

-- the digits as the code finds them
abbrev digits : ℕ → ℕ
digits b = (b % 2 ^ 52 + 2 ^ 52) * 2 ^ (11 - b / 2 ^ 52 % 2) % 2 ^ 64

module _ {b up : ℕ} (form : (2 ^ 52 ≤ b) × (b < 0x7ff0_0000_0000_0000) × (up ≤ 256)) where
  of : Scale b (radicand b) ((b / 2 ^ 52 - 1) / 2 + 511)
  of = normal_scale b (b / 2 ^ 52 - 1) (omega arith) (omega arith)

  found : digits b ≡ radicand b * 1024
  found =
      let x = b % 2 ^ 52 + 2 ^ 52 in
      let d : b - (b / 2 ^ 52 - 1) * 2 ^ 52 ≡ x = omega arith in
      let e = doubled x (b / 2 ^ 52 % 2) ((b / 2 ^ 52 - 1) % 2) (next (b / 2 ^ 52) (omega arith)) in
      let s = rw d at of in
      rw (d, e) (mod-eq_of_lt (omega (arith, s)))

  near : (p : ℕ) → Near (digits b * 2 ^ 42) p → Near (radicand b * 2 ^ 52) p
  near p h = let n = rw found at h in omega (arith, n)

  -- what the pattern v is, from the whole number p that is nearest
  module _ (p v : ℕ) (h : Near (digits b * 2 ^ 42) p) (e : v ≡ (exponent b - up) * 2 ^ 52 + p) where
    answers : (n : ℕ) → n * 2 ^ 1074 ≡ form_radicand b up → of_bits binary64 v ≡ root_units n
    answers n w = let s = of in rw e (root_bits _ _ p s.low s.high (omega arith) (near p h) n w)

    is_number : T (not (nan_bits binary64 v))
    is_number = let s = of in rw e (no_nan_bits _ _ p s.low s.high (omega arith) (near p h))

whole : (w q k : ℕ) → (q + k * 2 ^ 52) % 2 ^ 64 ≡ w → q < 2 ^ 53 → k < 2046 → w ≡ k * 2 ^ 52 + q
whole w q k e h l = omega arith

changed : (w y d n : ℕ) → (d + y) % 2 ^ 64 ≡ n → y ≤ w → w + n < 2 ^ 64 → (w + d) % 2 ^ 64 ≡ w + n - y
changed w y d n e h l = omega arith

-- the guess, moved by as many steps as it is off, and down to its place
joined : (w q k up n d : ℕ) → (q + k * 2 ^ 52) % 2 ^ 64 ≡ w → (d + (up * 2 ^ 52 + 1)) % 2 ^ 64 ≡ n → 2 ^ 52 ≤ q →
    q < 2 ^ 53 → q - 1 + n < 2 ^ 53 → up ≤ 256 → 511 ≤ k → k < 2046 → (w + d) % 2 ^ 64 ≡ (k - up) * 2 ^ 52 + (q - 1 + n)
joined w q k up n d a b l h s t m o =
    let e = whole w q k a h o in
    changed w (up * 2 ^ 52 + 1) d n b (omega (arith, e)) (omega (arith, e)) ∙ moved e
  where
    moved : w ≡ k * 2 ^ 52 + q → w + n - (up * 2 ^ 52 + 1) ≡ (k - up) * 2 ^ 52 + (q - 1 + n)
    moved e = omega arith

unchanged : (w q d x : ℕ) → q % 2 ^ 64 ≡ w → d ≡ 0 → (w + d) % 2 ^ 64 ≡ x → w ≡ x
unchanged w q d x e z h = omega arith

-- what is nearest, and what the guess is changed to
abbrev nearest : After-wrapping_sub_u64-change → ℕ
nearest c = c.wrapping_sub_u64-q.result - 1 + c.steps_up-n.result

changes : (c : After-wrapping_sub_u64-change) → let a = c.args in
    (to_bits binary64 a.g + c.wrapping_sub_u64-change.result) % 2 ^ 64
    ≡ (exponent a.b - a.up) * 2 ^ 52 + nearest c
changes c =
    let h = c.is_close.ensures c.if-is_close.true in
    let r = of c.requires in
    let l = short _ _ (near c.requires (nearest c) c.steps_up-n.ensures) r.low r.high in
    joined _ _ (exponent c.args.b) c.args.up _ _ c.wrapping_sub_u64-q.ensures.value
    c.wrapping_sub_u64-change.ensures.value h.0 h.1 l (omega arith) (omega arith) (omega arith)

pub float_to_bits-w : goal.float_to_bits-w
float_to_bits-w c = no_nan (positive c.args.g c.if-g.true)

pub is_close-requires : goal.is_close-requires
is_close-requires c = rw (found c.requires) (omega (arith, of c.requires))

pub excess-over-requires : goal.excess-over-requires
excess-over-requires c = (c.is_close.ensures c.if-is_close.true).1

pub overflow_mul-q : goal.overflow_mul-q
overflow_mul-q c = omega (arith, c.is_close.ensures c.if-is_close.true)

pub overflow_sub-q : goal.overflow_sub-q
overflow_sub-q c = omega (arith, c.is_close.ensures c.if-is_close.true)

pub overflow_sub-q-then-wrapping_sub_u64-ge-BELOW_ZERO : goal.overflow_sub-q-then-wrapping_sub_u64-ge-BELOW_ZERO
overflow_sub-q-then-wrapping_sub_u64-ge-BELOW_ZERO c = omega (arith, c.is_close.ensures c.if-is_close.true)

pub steps_up-n-requires : goal.steps_up-n-requires
steps_up-n-requires c =
    let h = c.is_close.ensures c.if-is_close.true in
    let o = c.excess-over in
    let v = c.wrapping_sub_u64 in (
      omega (arith, h),
      omega (arith, h),
      close_above _ _ _ h (omega (arith, o)) o.ensures,
      close_below _ _ _ _ h o.ensures v.ensures.value (omega (arith, v)) c.if-wrapping_sub_u64-ge-BELOW_ZERO.true,
    )

pub returns-then-change-eq0 : goal.returns-then-change-eq0
returns-then-change-eq0 c n e =
    let k = (goal.at.returns-then-change-eq0 c).After-wrapping_sub_u64-change in
    let g = c.args.g in
    let t = unchanged (to_bits binary64 g) _ _ _ c.wrapping_sub_u64-q.ensures.value c.if-change-eq0.true (changes k) in
    sym (of_bits-to_bits binary64 g (passes _ c.well_formed.0.1))
    ∙ answers c.requires (nearest k) _ c.steps_up-n.ensures t n e

pub float_from_bits-result : goal.float_from_bits-result
float_from_bits-result c =
    let k = (goal.at.float_from_bits-result c).After-wrapping_sub_u64-change in
    is_number c.requires (nearest k) _ c.steps_up-n.ensures (c.wrapping_add_u64.ensures.value ∙ changes k)

pub returns-then-wrapping_sub_u64-ge-BELOW_ZERO : goal.returns-then-wrapping_sub_u64-ge-BELOW_ZERO
returns-then-wrapping_sub_u64-ge-BELOW_ZERO c =
    let k = (goal.at.returns-then-wrapping_sub_u64-ge-BELOW_ZERO c).After-wrapping_sub_u64-change in
    answers c.requires (nearest k) _ c.steps_up-n.ensures (c.wrapping_add_u64.ensures.value ∙ changes k)

pub digit_by_digit-requires : goal.digit_by_digit-requires
digit_by_digit-requires c = rw (found c.requires) (omega (arith, of c.requires))

pub overflow_add-result : goal.overflow_add-result
overflow_add-result c =
    let r = of c.requires in
    omega (arith, short _ _ (near c.requires _ c.digit_by_digit.ensures) r.low r.high)

pub float_from_bits-result-2 : goal.float_from_bits-result-2
float_from_bits-result-2 c = is_number c.requires _ _ c.digit_by_digit.ensures refl

pub returns : goal.returns
returns c = answers c.requires _ _ c.digit_by_digit.ensures refl

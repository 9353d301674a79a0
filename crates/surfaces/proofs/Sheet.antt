-- The sag at a root lies between two that need no root, so a number that is near to both is near to it. Assumes
-- nothing.
use mathlib.Core.Path.{◌≡◌, refl}
use Prim.Native.Nat.{◌+◌, ◌-◌, ◌*◌, ◌^◌, ◌≤◌, ◌<◌}
use native.Mathlib.Nat.{le_of_lt}
use native.Mathlib.Omega.{arith}
use mathlib.Core.Bool.{Bool, true, false, not, ◌&&◌, ◌||◌, false≢true}
use lib.Dec.{T, lit≤}
use lib.Ieee.{Float, binary64, fits, neg, mul, add, lt}
use lib.Ieee.Fits.{add-fits, sub-fits}
use lib.Ieee.Scale.{finite}
use lib.Ieee.Positive.{num, den, positive}
use Rattle.numbers.specs.Arithmetic.{◌+₆₄◌, ◌-₆₄◌, ◌*₆₄◌, ◌/₆₄◌, ◌<₆₄◌, decimal, 0f, 1f, 4f, 1e-7, 1e-15}
use Rattle.numbers.specs.Basic.{magnitude}
use Rattle.numbers.specs.Root.{root, AboveZero}
use Rattle.numbers.proofs.Nearest.{none_nearer}
use Rattle.numbers.proofs.Plain.{Plain, plain, plain_finite, minus_finite, plain_magnitude, below, at_most_below}
use Rattle.numbers.proofs.Plain.{of_positive}
use Rattle.numbers.proofs.Signs.{exceeding}
use Rattle.numbers.proofs.Finite.{finite_number, finite_factor, finite_minuend, finite_summand}
use Rattle.numbers.proofs.Mirror.{mul_neg, div_neg, sub_neg}
use Rattle.numbers.proofs.Bounds.{exact, grows, product, total, quotient, rest, near}
use Rattle.numbers.proofs.Exceeds.{no_lower}
use Rattle.numbers.proofs.RootBounds.{root_bounded, square_bounded}
use Rattle.surfaces.specs.Conic.{conic_factor, conic_edge, conic_sag, sheet_tolerance, near_sag}
use Rattle.surfaces.specs.Parts.{SagNear}
use Rattle.numbers.proofs.Choice.{both, nor}

abbrev 1_1e-9 : Float
1_1e-9 = decimal 999999999 9

abbrev 1+1e-9 : Float
1+1e-9 = decimal 1000000001 9

abbrev 1e9 : Float
1e9 = decimal 1000000000 0

zero : Plain 0f
unfolding decimal
zero = plain _ _

unit : Plain 1f
unfolding decimal
unit = plain _ _

near_one : T (positive 1_1e-9) × T (positive 1+1e-9)
unfolding decimal
near_one = (tt, tt)

one : 0 < num (1f +₆₄ 0f)
unfolding decimal add
one = lit≤ tt

tiny : AboveZero 1e-15
unfolding decimal fits
tiny = (tt, tt)

tiny² : Plain (1e-15 *₆₄ 1e-15)
unfolding decimal mul
tiny² = plain _ _

less : num 1_1e-9 * (2 ^ 52 + 1) ≤ den 1_1e-9 * 2 ^ 52
unfolding decimal
less = lit≤ tt

more : den 1+1e-9 * 2 ^ 52 ≤ num 1+1e-9 * (2 ^ 52 - 1)
unfolding decimal
more = lit≤ tt

not_outside : {x : Float} → Plain x → (b : Bool) → (x <₆₄ conic_edge) ≡ b → b ≡ false
unfolding lt decimal neg
not_outside p false h = refl
not_outside p true h = absurd (false≢true (at_most_below conic_edge zero p (omega arith) h))

module _ (z c b sq guess : Float) where
  abbrev least : Float
  least = guess -₆₄ 1e-7

  abbrev most : Float
  most = guess +₆₄ 1e-7

  -- the tests of `surely_near`
  abbrev sure : Bool
  sure =
      let low = sq *₆₄ 1_1e-9 in
      let high = sq *₆₄ 1+1e-9 in
      let shallow = (c *₆₄ low) /₆₄ (1f +₆₄ most) in
      let deep = (c *₆₄ high) /₆₄ (1f +₆₄ least) in
      let above =
      (0f <₆₄ z) && (0f <₆₄ c) && (0f <₆₄ b) && (1e-15 *₆₄ 1e-15 <₆₄ sq) && (0f <₆₄ least) && (least <₆₄ most) in
      let small =
      (high <₆₄ 1e9) && (c *₆₄ high <₆₄ 1e9) && (b *₆₄ high <₆₄ 1f) && (1f +₆₄ most <₆₄ 4f) && (deep <₆₄ 1e9) in
      let rooted = (least *₆₄ least <₆₄ 1f -₆₄ b *₆₄ high) && (1f -₆₄ b *₆₄ low <₆₄ most *₆₄ most) in
      above && small && rooted && (z -₆₄ shallow <₆₄ sheet_tolerance) && (deep -₆₄ z <₆₄ sheet_tolerance)

  pub sure_near : T (fits binary64 sq) → sure ≡ true → SagNear z c b (root sq) × SagNear (neg z) (neg c) b (root sq)
  sure_near f h =
      let (h4, deep) = both _ _ h in
      let (h3, shallow) = both _ _ h4 in
      let (h2, rooted) = both _ _ h3 in
      let (above, small) = both _ _ h2 in
      let (a5, ordered) = both _ _ above in
      let (a4, least+) = both _ _ a5 in
      let (a3, sq+) = both _ _ a4 in
      let (a2, b+) = both _ _ a3 in
      let (z+, c+) = both _ _ a2 in
      let (s4, deep<) = both _ _ small in
      let (s3, most<) = both _ _ s4 in
      let (s2, product<) = both _ _ s3 in
      let (high<, depth<) = both _ _ s2 in
      let (least², most²) = both _ _ rooted in
      let r = root sq in
      let X : AboveZero sq = (f, finite_factor 1e9 (exceeding sq tiny² sq+) (of_positive 1+1e-9 near_one.1) high<) in
      let W = square_bounded sq 1_1e-9 1+1e-9 X near_one.0 near_one.1 1e9 less more high< in
      let C = of_positive c (finite_factor 1e9 (exceeding c zero c+) W.high depth<) in
      let B = of_positive b (finite_factor 1f (exceeding b zero b+) W.high product<) in
      let L : AboveZero least =
      (sub-fits binary64 guess 1e-7, finite_number most (exceeding least zero least+) ordered) in
      let l = of_positive least L.1 in
      let M : AboveZero most =
      (add-fits binary64 guess 1e-7, finite_summand 4f (exceeding most l ordered) unit most<) in
      let R = rest unit (product (exact B) W 1f product<) (most *₆₄ most) product< most² in
      let Q = root_bounded R (sub-fits binary64 1f (b *₆₄ (r *₆₄ r))) least most L M least² most² in
      let D = total (exact unit) Q 4f most< in
      let E = total
      (exact unit)
      record {
        low = zero;
        self = l;
        high = Q.high;
        from = le_of_lt (below zero l least+);
        to = le_of_lt (below l Q.high ordered);
      } 4f most< in
      let d = grows (1f +₆₄ 0f) (1f +₆₄ least) E.from one in
      let N = product (exact C) W 1e9 depth< in
      let S = quotient N D 1e9 d deep< in
      let Z = of_positive z (finite_minuend _ (exceeding z zero z+) S.low shallow) in
      let P = of_positive r (none_nearer sq X).above_zero.1 in
      let n : SagNear z c b r =
      record {
        curved = plain_finite C;
        placed = plain_finite P;
        beside = rw (plain_magnitude P) (no_lower sq 1e-15 X tiny sq+);
        inside = not_outside R.self _ refl;
        close = near Z S _ shallow deep;
      } in (
        n,
        record {
          curved = minus_finite C;
          placed = n.placed;
          beside = n.beside;
          inside = n.inside;
          close = rw (
            mul_neg C W.self,
            div_neg N.self D.self
                (grows (1f +₆₄ least) (1f +₆₄ root (1f -₆₄ b *₆₄ (r *₆₄ r))) D.from d),
            sub_neg Z S.self,
          )
              n.close;
        },
      )

-- what it says of a surface
pub near_on_sheet : (c k z r : Float) → (not (finite k) || (magnitude c <₆₄ 1e-15)) ≡ false →
    SagNear z c (conic_factor c k) r → near_sag c k z r ≡ true
unfolding near_sag conic_sag
near_on_sheet c k z r h n =
    let (good, curved) = nor (finite k) (magnitude c <₆₄ 1e-15) h in
    rw (n.placed, n.curved, good, curved, n.beside, n.inside, n.close)

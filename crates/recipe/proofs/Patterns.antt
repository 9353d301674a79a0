-- Which patterns are finite numbers'. Assumes nothing.
use Prim.Native.Nat.{ℕ, zero, suc, ◌+◌, ◌/◌, ◌%◌}
use mathlib.Core.Path.{◌≡◌, refl}
use mathlib.Core.Bool.{Bool, true, false, not, cond}
use lib.Dec.{eqb, leb}
use lib.Ieee.{Float, nan, inf, binary64, of_bits, of_fields, odd, hid, low, top}
use lib.Ieee.Scale.{finite}

odd_finite : (d : ℕ) (s : Bool) (q k l : ℕ) → finite (odd d s q k l) ≡ true
unfolding odd
odd_finite d s zero k l = refl
odd_finite d s (suc q) k l = refl

pick_finite : (e z s : Bool) (v : Float) → finite v ≡ true → finite (cond e (cond z (inf s) nan) v) ≡ not e
pick_finite true true s v h = refl
pick_finite true false s v h = refl
pick_finite false z s v h = h

fields_finite : (s : Bool) (x t : ℕ) → finite (of_fields binary64 s x t) ≡ not (eqb x 2047)
unfolding of_fields
fields_finite s zero t = odd_finite 53 s t 0 (low binary64)
fields_finite s (suc x) t =
    pick_finite (eqb (suc x) 2047) (eqb t 0) s _ (odd_finite 53 s (hid binary64 + t) x (low binary64))

-- those whose exponent's digits are not all ones
pub finite_pattern : (n : ℕ)
    → finite (of_bits binary64 n) ≡ not (eqb (n % 0x8000_0000_0000_0000 / 0x10_0000_0000_0000) 2047)
unfolding of_bits
finite_pattern n =
    fields_finite (leb (top binary64) n) (n % 0x8000_0000_0000_0000 / 0x10_0000_0000_0000) (n % hid binary64)

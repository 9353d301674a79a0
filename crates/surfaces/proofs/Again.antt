-- Two numbers above 0 with one pattern are one number, so that the root of either is the other's. Assumes nothing.
use Rattle.std.specs.Prelude.{if◌then◌else◌}
use mathlib.Core.Path.{◌≡◌, refl, sym, ap, ◌∙◌}
use mathlib.Core.Bool.{Bool, true, false, ◌&&◌, false≢true}
use lib.Dec.{T, eqb}
use borrow.Author.Tests.{eqb-true}
use lib.Ieee.{Float, binary64, fits, to_bits, of_bits, lt, is_nan}
use lib.Ieee.Fits.{round-fits}
use lib.Ieee.Bits.{of_bits-to_bits}
use Rattle.numbers.specs.Arithmetic.{decimal, 0f}
use Rattle.numbers.specs.Basic.{larger, negative}
use Rattle.numbers.specs.Root.{root}
use Rattle.surfaces.specs.Parts.{same_above0, root_again}
use Rattle.numbers.proofs.Choice.{either}

abbrev Fits : Float → Type 0
Fits x = T (fits binary64 x)

chosen : (a : Bool) (x y : Float) → Fits x → Fits y →
    (if a then eqb (to_bits binary64 x) (to_bits binary64 y) else false) ≡ true → x ≡ y
chosen true x y f g h =
    sym (of_bits-to_bits binary64 x f) ∙ ap (of_bits binary64) (eqb-true (to_bits binary64 x) (to_bits binary64 y) h)
    ∙ of_bits-to_bits binary64 y g
chosen false x y f g h = absurd (false≢true h)

one_number : (x y : Float) → Fits x → Fits y → same_above0 x y ≡ true → x ≡ y
unfolding same_above0
one_number x y f g h = chosen (lt 0f x && lt 0f y) x y f g h

either_way : (b : Bool) (x y : Float) → same_above0 x y ≡ b → Fits x → Fits y → (if b then root y else root x) ≡ root x
either_way true x y h f g = ap root (sym (one_number x y f g h))
either_way false x y h f g = refl

pub root_again_lem : (x y : Float) → Fits x → Fits y → root_again x y (root y) ≡ root x
unfolding root_again
root_again_lem x y f g = either_way (same_above0 x y) x y refl f g

pub larger_fits : (x : Float) → Fits x → Fits (larger x 0f)
unfolding larger decimal
larger_fits x f =
    let z = round-fits binary64 false 0 1 in
    either Fits (is_nan x) _ _ z
    (either Fits (is_nan 0f) _ _ f
    (either Fits (lt x 0f) _ _ z (either Fits (lt 0f x) _ _ f (either Fits (negative x) _ _ z f))))

-- A literal of the code is the number that the rules write. Assumes nothing.
use mathlib.Core.Path.{◌≡◌, refl}
use lib.Ieee.{binary64, of_bits}
use Rattle.numbers.specs.Arithmetic.{decimal, 0f, ½, 1f, 1½, 2f, 4f, 1e-4, 1e-7, 1e-11, 1e-12, 1e-14, 1e-15, 1e-30}

pub zero : of_bits binary64 0x0 ≡ 0f
unfolding of_bits decimal
zero = refl

pub half : of_bits binary64 0x3fe0000000000000 ≡ ½
unfolding of_bits decimal
half = refl

pub one : of_bits binary64 0x3ff0000000000000 ≡ 1f
unfolding of_bits decimal
one = refl

pub one_and_a_half : of_bits binary64 0x3ff8000000000000 ≡ 1½
unfolding of_bits decimal
one_and_a_half = refl

pub two : of_bits binary64 0x4000000000000000 ≡ 2f
unfolding of_bits decimal
two = refl

pub four : of_bits binary64 0x4010000000000000 ≡ 4f
unfolding of_bits decimal
four = refl

pub ten_to_minus_4 : of_bits binary64 0x3f1a36e2eb1c432d ≡ 1e-4
unfolding of_bits decimal
ten_to_minus_4 = refl

pub ten_to_minus_7 : of_bits binary64 0x3e7ad7f29abcaf48 ≡ 1e-7
unfolding of_bits decimal
ten_to_minus_7 = refl

pub ten_to_minus_11 : of_bits binary64 0x3da5fd7fe1796495 ≡ 1e-11
unfolding of_bits decimal
ten_to_minus_11 = refl

pub ten_to_minus_12 : of_bits binary64 0x3d719799812dea11 ≡ 1e-12
unfolding of_bits decimal
ten_to_minus_12 = refl

pub ten_to_minus_14 : of_bits binary64 0x3d06849b86a12b9b ≡ 1e-14
unfolding of_bits decimal
ten_to_minus_14 = refl

pub ten_to_minus_15 : of_bits binary64 0x3cd203af9ee75616 ≡ 1e-15
unfolding of_bits decimal
ten_to_minus_15 = refl

pub ten_to_minus_30 : of_bits binary64 0x39b4484bfeebc2a0 ≡ 1e-30
unfolding of_bits decimal
ten_to_minus_30 = refl

pub ruleset literals = (zero, half, one, one_and_a_half, two, four, ten_to_minus_4, ten_to_minus_7, ten_to_minus_11, ten_to_minus_12, ten_to_minus_14, ten_to_minus_15, ten_to_minus_30)

-- The one pattern that stands for every NaN. Assumes nothing.
use Rattle.std.proofs.Common.{◌≡◌, true, refl}
use Rattle.std.specs.Float.{binary64}
use Rattle.std.specs.Float.Ieee.{Float, nan, inf, fin, is_nan, to_bits}

pub nan_bits : (x : Float) → is_nan x ≡ true → to_bits binary64 x ≡ 0x7ff8000000000000
unfolding is_nan to_bits
nan_bits nan h = refl
nan_bits (inf s) h = cc
nan_bits (fin s m e) h = cc

-- What every sag but the conic's has: the root of a radicand that may lie a little below 0. Definitions only.
use Rattle.std.specs.Prelude.{Float, if◌then◌else◌}
use Rattle.std.specs.Float.Ieee.{neg}
use Rattle.numbers.specs.Arithmetic.{◌<₆₄◌, 0f, 1e-12}
use Rattle.numbers.specs.Basic.{larger}
use Rattle.numbers.specs.Root.{root}
use Rattle.surfaces.specs.Refusal.{Told, gives, no_number}

-- how far below 0 such a radicand may lie
abbrev pub radicand_tolerance : Float
radicand_tolerance = 1e-12

-- a radicand below 0 that is not refused counts as 0
unfoldable pub edge_root : Float → Told Float
edge_root radicand = if radicand <₆₄ neg radicand_tolerance then no_number 5 else gives (root (larger radicand 0f))

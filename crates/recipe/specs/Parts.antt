-- What the parts of the code say to each other; no promise of the crate cites it. Definitions only.
use Rattle.std.specs.Prelude.{ℕ, Result, Ok, Err}
use Rattle.surfaces.specs.Surface.{limit_of}
use Rattle.recipe.specs.declared.fault.Fault.{Fault}
use Rattle.recipe.specs.declared.scan.Seen.{Seen}
use Rattle.recipe.specs.declared.scan.Refused.{Refused}
use Rattle.recipe.specs.Fault.{fault_number}
use Rattle.recipe.specs.Record.{Read, bad, good}

-- what a look at one record says: the next record's place and the surface's limit, or the refusal's number
abbrev pub seen_of : Read → Result Seen ℕ
seen_of (bad n) = Err n
seen_of (good o next) = Ok (record { next = next; limit = limit_of o.surface.kind })

abbrev pub told_look : Result Seen Fault → Result Seen ℕ
told_look (Ok s) = Ok s
told_look (Err f) = Err (fault_number f)

-- and where it is refused
abbrev pub placed : ℕ → Result Seen ℕ → Result Seen (ℕ × ℕ)
placed at (Ok s) = Ok s
placed at (Err n) = Err (n, at)

abbrev pub told_look_at : Result Seen Refused → Result Seen (ℕ × ℕ)
told_look_at (Ok s) = Ok s
told_look_at (Err e) = Err (fault_number e.fault, e.place)

-- What a question for one surface's record answers, on every input. Definitions only.
use Rattle.std.specs.Prelude.{ℕ, suc, List, map, false, length, get_or, replicate, eqb, leb, Float, if◌then◌else◌}
use Rattle.std.specs.Prelude.{Result, Ok, Err}
use Rattle.numbers.specs.Arithmetic.{0f}
use Rattle.surfaces.specs.declared.types.Ray.{Ray}
use Rattle.recipe.specs.Scan.{Scan, refused, items, scan}
use Rattle.trace.specs.declared.refusal.Refused.{Refused}
use Rattle.trace.specs.Leg.{width}
use Rattle.trace.specs.Refusal.{why_number}
use Rattle.trace.specs.Unbroken.{Mark, unbroken}
use Rattle.trace.specs.Run.{most_records, optics_of, beam_of, ray_admission}

-- 1 or the refusal, the refused record's place, and the surface's record, blank where the beam ended before it
pub record Reached : Type 0 where
  pub number : ℕ
  pub place : ℕ
  pub row : List Float

abbrev pub no_row : List Float
no_row = replicate width 0f

abbrev pub refused_reach : ℕ → ℕ → Reached
refused_reach n p = record { number = n; place = p; row = no_row }

-- what the result for one surface tells
abbrev pub told_reach : Result (List Float) Refused → Reached
told_reach (Ok z) = record { number = 1; place = 0; row = z }
told_reach (Err r) = refused_reach (why_number r.why) r.place

-- surface k's record among a trace's, blank where the beam ended earlier
abbrev pub row_at : List Mark → ℕ → List Float
row_at l k = get_or (map (λ (m : Mark). m.row) l) k no_row

-- the records up to number k, which alone are looked at
abbrev pub up_to : List ℕ → ℕ → Scan
up_to b k = scan false b (suc k) 0

-- their refusals; 2 if the recipe ends before record k; ray and index
abbrev pub reach_on : Scan → Ray → Float → ℕ → Reached
reach_on (refused n p) ray index k = refused_reach n p
reach_on (items l) ray index k =
    let n = ray_admission ray index in
    if leb (length l) k then refused_reach 2 0 else
    if eqb n 1 then
    record { number = 1; place = 0; row = row_at (unbroken 0 (optics_of l) (beam_of ray index)).marks k } else
    refused_reach n 0

-- before all else, a number that no record can have
unfoldable pub reach_of : List ℕ → Ray → Float → ℕ → Reached
reach_of b ray index k = if leb most_records k then refused_reach 2 0 else reach_on (up_to b k) ray index k

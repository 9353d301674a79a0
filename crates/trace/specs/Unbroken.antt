-- The unbroken trace: each surface in turn by its own rule to its end, with no state and no allowance. That it is not
-- defined through the continuation is seen in the imports: of this crate the beam and `Leg` alone, which know no state
-- and no step. Definitions only.
use Rattle.std.specs.Prelude.{ℕ, suc, ◌+◌, ◌-◌, List, [], ◌∷◌, ◌++◌, length, replicate, leb, Float, if◌then◌else◌}
use Rattle.numbers.specs.Arithmetic.{0f}
use Rattle.surfaces.specs.Refusal.{done}
use Rattle.surfaces.specs.Surface.{surface_end}
use Rattle.recipe.specs.declared.record.Optic.{Optic}
use Rattle.trace.specs.declared.leg.Beam.{Beam}
use Rattle.trace.specs.Leg.{leg_of, beam_after, row_of}

-- a surface's record, and its steps: the passes that its rule takes
pub record Mark : Type 0 where
  pub row : List Float
  pub steps : ℕ

-- the records, how the trace ended, the beam as the last hit left it, and how many hits there were
pub record Trace : Type 0 where
  pub marks : List Mark
  pub outcome : ℕ
  pub beam : Beam
  pub hits : ℕ

-- the surfaces from a number on: a hit goes on from where it is, a refusal ends the trace
unfoldable pub unbroken : ℕ → List Optic → Beam → Trace
unbroken number [] b = record { marks = []; outcome = 1; beam = b; hits = 0 }
unbroken number (o ∷ l) b =
    let e = surface_end o.surface b.ray in
    let x = leg_of number o b e.answer in
    let m : Mark = record { row = row_of x e.passes; steps = e.passes } in
    let rest = unbroken (number + 1) l (beam_after o b x.value) in
    if done x then
    record { marks = m ∷ rest.marks; outcome = rest.outcome; beam = rest.beam; hits = suc rest.hits } else
    record { marks = m ∷ []; outcome = x.line.number; beam = b; hits = 0 }

-- the steps of the whole trace
unfoldable pub total : List Mark → ℕ
total [] = 0
total (m ∷ l) = m.steps + total l

-- the surfaces that have hit or refused after n steps: those whose steps, added up from the first, are at most n
unfoldable pub finished : ℕ → List Mark → List Mark
finished n [] = []
finished n (m ∷ l) = if leb m.steps n then m ∷ finished (n - m.steps) l else []

unfoldable pub rows : List Mark → List Float
rows [] = []
rows (m ∷ l) = m.row ++ rows l

-- a buffer of `size` numbers that begins with v and is blank behind
unfoldable pub padded : ℕ → List Float → List Float
padded size v = v ++ replicate (size - length v) 0f
